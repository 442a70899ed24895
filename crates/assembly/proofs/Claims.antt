-- The claims of texts and sheets (specs/Claim.antt), put together.
-- Assumes nothing.
use mathlib.Core.Path.{◌≡◌, refl, sym, ap, ◌∙◌}
use mathlib.Core.List.{List}
use Prim.Native.Nat.{ℕ, ◌≤◌}
use native.Mathlib.Omega.{arith}
use lib.ListN.{length, length-replicate}
use Rattle.word.proofs.Bool.{never}
use Rattle.program.specs.declared.Command.{Command}
use Rattle.program.specs.Decode.{Decoded, refused, accepted, decode, command_limit}
use Rattle.program.specs.Encode.{AllWritable, encode}
use Rattle.program.proofs.Encoding.{decode-encode, encode-decode, decoded-writable, encode-bytes}
use Rattle.assembly.specs.Assembly.{read_text, listing, given, result_of, assembled, listed}
use Rattle.assembly.specs.Claim.{ListedReads, ListedNormal, AssembledLists, NormalListed, NormalOne, NormalReads, NormalDecides}
use Rattle.assembly.specs.Claim.{SheetBound, ListingBound, ListingReached}
use Rattle.assembly.proofs.Round.{listing-read}
use Rattle.assembly.proofs.Normal.{read_length, read-writable, normal-listing, listing-normal}
use Rattle.assembly.proofs.Bounds.{encode-length, listing-length}
use Rattle.assembly.proofs.Bounds.{longest, longest_of, longest-writable, longest-encoded, longest-listed}

-- what is given is given of commands
given-commands : (f : List Command → List ℕ) (d : Decoded) (bytes : List ℕ) → result_of f d ≡ given bytes
    → (cs : List Command) × (d ≡ accepted cs) × (f cs ≡ bytes)
given-commands f (refused r) bytes e = never (cc)
given-commands f (accepted cs) bytes e = (cs, refl, cc)

-- the commands of a sheet that is listed
listed-commands : (sheet text : List ℕ) → listed sheet ≡ given text
    → (cs : List Command) × (decode sheet ≡ accepted cs) × (listing cs ≡ text)
unfolding listed
listed-commands sheet text e = given-commands listing (decode sheet) text e

-- the commands of a text that is read
assembled-commands : (text sheet : List ℕ) → assembled text ≡ given sheet
    → (cs : List Command) × (read_text text ≡ accepted cs) × (encode cs ≡ sheet)
unfolding assembled
assembled-commands text sheet e = given-commands encode (read_text text) sheet e

module _ (cs : List Command) (h : length cs ≤ command_limit) (w : AllWritable cs) where
  commands-listed : listed (encode cs) ≡ given (listing cs)
  unfolding listed
  commands-listed = rw (decode-encode cs h w)

  commands-assembled : assembled (listing cs) ≡ given (encode cs)
  unfolding assembled
  commands-assembled = rw (listing-read cs h w)

-- ════════════════════════════════════════════════════════════════════════════════════════════
-- From sheets to texts and back
-- ════════════════════════════════════════════════════════════════════════════════════════════

pub listed-reads : ListedReads
listed-reads sheet text b e =
    let (cs, d, t) = listed-commands sheet text e in
    let (h, w) = decoded-writable sheet cs b d in
    ap assembled (sym t) ∙ commands-assembled cs h w ∙ ap given (encode-decode sheet cs b d)

pub listed-normal : ListedNormal
listed-normal sheet text b e =
    let (cs, d, t) = listed-commands sheet text e in
    rw (← t) (listing-normal cs (decoded-writable sheet cs b d).1)

-- ════════════════════════════════════════════════════════════════════════════════════════════
-- From texts to sheets and back
-- ════════════════════════════════════════════════════════════════════════════════════════════

-- the listing of a text's sheet
read-listed : (text sheet : List ℕ) (cs : List Command) → read_text text ≡ accepted cs → encode cs ≡ sheet
    → listed sheet ≡ given (listing cs)
read-listed text sheet cs r t = rw (← t) (commands-listed cs (read_length text cs r) (read-writable text cs r))

pub assembled-lists : AssembledLists
assembled-lists text sheet e =
    let (cs, r, t) = assembled-commands text sheet e in
    (rw (← t) (encode-bytes cs), (listing cs, read-listed text sheet cs r t))

pub normal-listed : NormalListed
normal-listed text sheet e n =
    let (cs, r, t) = assembled-commands text sheet e in read-listed text sheet cs r t ∙ ap given (normal-listing text cs r n)

pub normal-one : NormalOne
normal-one text text' sheet e e' n n' =
    let p = normal-listed text sheet e n in
    let q = normal-listed text' sheet e' n' in
    cc

pub normal-reads : NormalReads
normal-reads text sheet normal e f = listed-reads sheet normal (assembled-lists text sheet e).0 f

pub normal-decides : NormalDecides
normal-decides text text' sheet sheet' normal e e' f f' =
    let p = normal-reads text sheet normal e f in
    let q = normal-reads text' sheet' normal e' f' in
    cc

-- ════════════════════════════════════════════════════════════════════════════════════════════
-- How long they are
-- ════════════════════════════════════════════════════════════════════════════════════════════

pub sheet-bound : SheetBound
sheet-bound text sheet e =
    let (cs, r, t) = assembled-commands text sheet e in
    omega (arith, ap length t, encode-length cs, read_length text cs r)

pub listing-bound : ListingBound
listing-bound sheet text b e =
    let (cs, d, t) = listed-commands sheet text e in
    let (h, w) = decoded-writable sheet cs b d in
    omega (arith, ap length t, listing-length cs w)

pub listing-reached : ListingReached
listing-reached =
    let cs = longest_of command_limit in
    let h = length-replicate command_limit longest in (
      encode cs,
      (
        listing cs,
        (
          commands-listed cs (omega arith) (longest-writable command_limit),
          longest-encoded command_limit,
          longest-listed command_limit,
        ),
      ),
    )
