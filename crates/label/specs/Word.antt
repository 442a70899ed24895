-- The label that a word stores.
use Rattle.std.specs.Prelude.{ℕ, ◌%◌, ◌^◌, Bool, true, false, ℤ, ltb, None, Option, Some}
use Rattle.word.specs.Wrap.{residue}
use Rattle.word.specs.Number.{natural_of}
use Rattle.label.specs.Label.{principals}
use Rattle.label.specs.declared.Label.{Label}

abbrev pub stored_if : Bool → ℕ → Option Label
stored_if true n = Some (record { 0 = n })
stored_if false n = None

abbrev pub stored_natural : Option ℕ → Option Label
stored_natural (Some n) = stored_if (ltb n (2 ^ principals)) n
stored_natural None = None

-- a label word is one of 0 to 2^32 − 1
unfoldable pub stored : ℤ → Option Label
stored z = stored_natural (natural_of z)

-- the label in the lowest bits of a word, whatever the others are
unfoldable pub low_label : ℤ → ℕ
low_label z = residue 64 z % 2 ^ principals
