-- Rule tables (policy tables) as expressions.
use Rattle.std.specs.Prelude.{List}

-- label expressions, in the order of their bytes: 10 empty, 11 P, 12 L1, 13 L2, 14 L3, 15 join of two
pub data LabelExpr : Type 0 where
  empty place input1 input2 input3 : LabelExpr
  join : LabelExpr → LabelExpr → LabelExpr

-- yes/no expressions: 16 flows of two labels, 17 true, 18 and, 19 or
pub data Condition : Type 0 where
  flows : LabelExpr → LabelExpr → Condition
  always : Condition
  both : Condition → Condition → Condition
  either : Condition → Condition → Condition

-- the rule of a command: whether it is allowed, the new place label, the result label
pub record Rule : Type 0 where
  pub allowed : Condition
  pub pc : LabelExpr
  pub result : LabelExpr

-- a rule table: the rules of the commands that have one of their own, in the order of their codes: from 01 to 0b, then 0e
abbrev pub Table : Type 0
Table = List Rule
