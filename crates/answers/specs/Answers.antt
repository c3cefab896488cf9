-- 01's number and line for each refusal.
use Rattle.std.specs.Prelude.{ℕ, ◌<◌, ◌≡◌, Result, Ok, Err, cond, eqb}
use Rattle.semantics.specs.Const as Const
use Rattle.answers.specs.declared.Refusal.{Refusal}
use Rattle.answers.specs.declared.Refusal.TheVariants.{LongSheet, SmallSpace, NoForm, BadReference, DeepNesting, BadModule, TooMany, LongString, LongAlloc, NegativeAlloc, OutsideLiteral, LongLiteral, Outgrown}

abbrev pub refusal_number : Refusal → ℕ
refusal_number LongSheet = 1
refusal_number SmallSpace = 2
refusal_number (NoForm k) = 3
refusal_number (BadReference k) = 4
refusal_number (DeepNesting k) = 5
refusal_number (BadModule k) = 6
refusal_number (TooMany k) = 7
refusal_number (LongString k) = 8
refusal_number (LongAlloc k) = 9
refusal_number (NegativeAlloc k) = 10
refusal_number (OutsideLiteral k) = 11
refusal_number (LongLiteral k) = 12
refusal_number Outgrown = 13

abbrev pub refusal_line : Refusal → ℕ
refusal_line LongSheet = 0
refusal_line SmallSpace = 0
refusal_line (NoForm k) = k
refusal_line (BadReference k) = k
refusal_line (DeepNesting k) = k
refusal_line (BadModule k) = k
refusal_line (TooMany k) = k
refusal_line (LongString k) = k
refusal_line (LongAlloc k) = k
refusal_line (NegativeAlloc k) = k
refusal_line (OutsideLiteral k) = k
refusal_line (LongLiteral k) = k
refusal_line Outgrown = 0

-- q is the number of a refusal, and k its line: 1, 2 and 13 have none
pub record RefusalAt (q k : ℕ) : Type 0 where
  pub first : 0 < q
  pub last : q < 14
  pub sheet : q ≡ 1 → k ≡ 0
  pub space : q ≡ 2 → k ≡ 0
  pub outgrown : q ≡ 13 → k ≡ 0

-- as the definitions have it
abbrev pub refusal_of : Refusal → Const.Refusal
refusal_of r = record { number = refusal_number r; line = refusal_line r }

-- the refusal at the first line that breaks a rule, where there is one: 0 stands for none
abbrev pub first_line : (ℕ → Refusal) → ℕ → Result Unit Refusal
first_line at k = cond (eqb k 0) (Ok tt) (Err (at k))
