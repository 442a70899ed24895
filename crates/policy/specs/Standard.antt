-- The standard table, written as document 01 writes it: sums joined from the left.
use Rattle.std.specs.Prelude.{ℕ, List, [], ◌∷◌, ◌++◌}
use Rattle.policy.specs.Expression.{LabelExpr, empty, place, input1, input2, input3, join, Condition, flows, always, Rule, Table}

-- for each rule: allowed, place, result
abbrev pub standard_bytes : List ℕ
standard_bytes =
    -- Add, Sub: allowed; P; L1+L2
    (0x17 ∷ 0x11 ∷ 0x15 ∷ 0x12 ∷ 0x13 ∷ [])
    ++ (0x17 ∷ 0x11 ∷ 0x15 ∷ 0x12 ∷ 0x13 ∷ [])
    -- Pop: allowed; P; 0
    ++ (0x17 ∷ 0x11 ∷ 0x10 ∷ [])
    -- Output: allowed; P; L1+P
    ++ (0x17 ∷ 0x11 ∷ 0x15 ∷ 0x12 ∷ 0x11 ∷ [])
    -- Push: allowed; P; 0
    ++ (0x17 ∷ 0x11 ∷ 0x10 ∷ [])
    -- Load: allowed; P; L1+L2
    ++ (0x17 ∷ 0x11 ∷ 0x15 ∷ 0x12 ∷ 0x13 ∷ [])
    -- Store: allowed if L1+P flows to L3; P; L1+L2+P
    ++ (0x16 ∷ 0x15 ∷ 0x12 ∷ 0x11 ∷ 0x14 ∷ 0x11 ∷ 0x15 ∷ 0x15 ∷ 0x12 ∷ 0x13 ∷ 0x11 ∷ [])
    -- Jump, Bnz: allowed; L1+P; 0
    ++ (0x17 ∷ 0x15 ∷ 0x12 ∷ 0x11 ∷ 0x10 ∷ [])
    ++ (0x17 ∷ 0x15 ∷ 0x12 ∷ 0x11 ∷ 0x10 ∷ [])
    -- Call: allowed; L1+P; P
    ++ (0x17 ∷ 0x15 ∷ 0x12 ∷ 0x11 ∷ 0x11 ∷ [])
    -- Ret: allowed; L1; 0
    ++ (0x17 ∷ 0x12 ∷ 0x10 ∷ [])
    -- RetV: allowed; L2; L1+P
    ++ (0x17 ∷ 0x13 ∷ 0x15 ∷ 0x12 ∷ 0x11 ∷ [])

-- the table that these bytes are read as
abbrev pub rule_with : Condition → LabelExpr → LabelExpr → Rule
rule_with c p r = record { allowed = c; pc = p; result = r }

unfoldable pub standard_table : Table
standard_table =
    rule_with always place (join input1 input2)
    ∷ rule_with always place (join input1 input2)
    ∷ rule_with always place empty
    ∷ rule_with always place (join input1 place)
    ∷ rule_with always place empty
    ∷ rule_with always place (join input1 input2)
    ∷ rule_with (flows (join input1 place) input3) place (join (join input1 input2) place)
    ∷ rule_with always (join input1 place) empty
    ∷ rule_with always (join input1 place) empty
    ∷ rule_with always (join input1 place) place
    ∷ rule_with always input1 empty
    ∷ rule_with always input2 (join input1 place)
    ∷ []
