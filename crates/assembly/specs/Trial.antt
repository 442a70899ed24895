-- Texts and sheets to try: what a text is read into and what a sheet is listed as, or how it is refused. proofs/Trials.antt computes them.
use Rattle.std.specs.Prelude.{ℕ, ◌≡◌, List, [], ◌∷◌, ◌++◌, map}
use Prim.Native.String.{String}
use Rattle.word.specs.Text.{ascii}
use Rattle.program.specs.Decode.{refusal}
use Rattle.assembly.specs.Assembly.{newline, Outcome, denied, given, assembled, listed}

-- lines, each with its newline
abbrev pub text : List String → List ℕ
text [] = []
text (s ∷ ss) = ascii s ++ newline ∷ text ss

pub record Trial : Type 0 where
  pub input : List ℕ
  pub expected : Outcome

abbrev pub gives : List ℕ → List ℕ → Trial
gives input bytes = record { input = input; expected = given bytes }

abbrev pub refuses : List ℕ → ℕ → ℕ → Trial
refuses input number place = record { input = input; expected = denied (refusal number place) }

-- R1 of document 01
abbrev pub text1 : List ℕ
text1 = text ("Push 1" ∷ "Load" ∷ "Push 0" ∷ "Load" ∷ "Add" ∷ "Output" ∷ "Push 0" ∷ "Load" ∷ "Output" ∷ [])

abbrev pub sheet1 : List ℕ
sheet1 =
    5 ∷ 1 ∷ 0 ∷ 0 ∷ 0 ∷ 0 ∷ 0 ∷ 0 ∷ 0 ∷ 6 ∷ 5 ∷ 0 ∷ 0 ∷ 0 ∷ 0 ∷ 0 ∷ 0 ∷ 0 ∷ 0 ∷ 6 ∷ 1 ∷ 4 ∷ 5 ∷ 0 ∷ 0 ∷ 0 ∷ 0 ∷ 0 ∷ 0 ∷ 0 ∷ 0 ∷ 6 ∷ 4 ∷ []

-- texts that are read: R1; no line; no last newline; numbers that are not normal; the ends of the ranges
abbrev pub texts : List Trial
texts =
    gives text1 sheet1
    ∷ gives [] []
    ∷ gives (ascii "Ret") (11 ∷ [])
    ∷ gives (text ("Bnz 007" ∷ "Bnz -0" ∷ [])) (9 ∷ 7 ∷ 0 ∷ 9 ∷ 0 ∷ 0 ∷ [])
    ∷ gives (text ("Push 9223372036854775807" ∷ [])) (5 ∷ 255 ∷ 255 ∷ 255 ∷ 255 ∷ 255 ∷ 255 ∷ 255 ∷ 127 ∷ [])
    ∷ gives (text ("Push -9223372036854775808" ∷ [])) (5 ∷ 0 ∷ 0 ∷ 0 ∷ 0 ∷ 0 ∷ 0 ∷ 0 ∷ 128 ∷ [])
    ∷ gives (text ("Bnz 32767" ∷ "Bnz -32768" ∷ [])) (9 ∷ 255 ∷ 127 ∷ 9 ∷ 0 ∷ 128 ∷ [])
    ∷ gives (text ("OutputTo -0" ∷ "OutputTo 15" ∷ [])) (12 ∷ 0 ∷ 12 ∷ 15 ∷ [])
    ∷ gives (text ("CallN 2 1" ∷ "CallN 015 -0" ∷ "RetV" ∷ [])) (13 ∷ 2 ∷ 1 ∷ 13 ∷ 15 ∷ 0 ∷ 14 ∷ [])
    -- a lone newline; a name in another case, or the start of one; two spaces, one too many, a plus; operands too many and too few
    ∷ refuses (newline ∷ []) 10 1
    ∷ refuses (text ("Add" ∷ "push 1" ∷ [])) 10 2
    ∷ refuses (text ("Pus 1" ∷ [])) 10 1
    ∷ refuses (text ("Push  1" ∷ [])) 10 1
    ∷ refuses (text ("Push 1 " ∷ [])) 10 1
    ∷ refuses (text ("Push +1" ∷ [])) 10 1
    ∷ refuses (text ("Add 1" ∷ [])) 10 1
    ∷ refuses (text ("Push" ∷ [])) 10 1
    -- beyond the ranges; 10 before 11
    ∷ refuses (text ("Push 9223372036854775808" ∷ [])) 11 1
    ∷ refuses (text ("Push -9223372036854775809" ∷ [])) 11 1
    ∷ refuses (text ("Ret" ∷ "Bnz 32768" ∷ [])) 11 2
    ∷ refuses (text ("Bnz 32768 1" ∷ [])) 10 1
    ∷ refuses (text ("OutputTo 16" ∷ [])) 11 1
    ∷ refuses (text ("OutputTo -1" ∷ [])) 11 1
    ∷ refuses (text ("Output 1" ∷ [])) 10 1
    ∷ refuses (text ("CallN 16 0" ∷ [])) 11 1
    ∷ refuses (text ("CallN 0 2" ∷ [])) 11 1
    ∷ refuses (text ("CallN 9223372036854775808 -1" ∷ [])) 11 1
    ∷ refuses (text ("CallN 2" ∷ [])) 10 1
    ∷ refuses (text ("CallN 2 1 0" ∷ [])) 10 1
    ∷ refuses (text ("CallN 16 x" ∷ [])) 10 1
    ∷ refuses (text ("CallN x 2" ∷ [])) 10 1
    ∷ refuses (text ("CallN 2  1" ∷ [])) 10 1
    ∷ refuses (text ("RetV 1" ∷ [])) 10 1
    ∷ []

-- sheets that are listed; checks 2, 3, 12 and 14
abbrev pub sheets : List Trial
sheets =
    gives sheet1 text1
    ∷ gives [] []
    ∷ gives (9 ∷ 255 ∷ 255 ∷ []) (text ("Bnz -1" ∷ []))
    ∷ gives (12 ∷ 15 ∷ []) (text ("OutputTo 15" ∷ []))
    ∷ gives (13 ∷ 15 ∷ 1 ∷ 14 ∷ []) (text ("CallN 15 1" ∷ "RetV" ∷ []))
    ∷ refuses (3 ∷ 15 ∷ []) 2 1
    ∷ refuses (3 ∷ 9 ∷ 0 ∷ []) 3 1
    ∷ refuses (3 ∷ 12 ∷ []) 3 1
    ∷ refuses (3 ∷ 12 ∷ 16 ∷ 15 ∷ []) 12 1
    ∷ refuses (3 ∷ 12 ∷ 255 ∷ []) 12 1
    ∷ refuses (3 ∷ 13 ∷ 16 ∷ []) 3 1
    ∷ refuses (3 ∷ 13 ∷ 16 ∷ 0 ∷ []) 14 1
    ∷ refuses (3 ∷ 13 ∷ 0 ∷ 2 ∷ []) 14 1
    ∷ []

abbrev pub Hold : (List ℕ → Outcome) → List Trial → Type 0
Hold f ts = map (λ (t : Trial). f t.input) ts ≡ map (λ (t : Trial). t.expected) ts

abbrev pub Trials : Type 0
Trials = Hold assembled texts × Hold listed sheets
