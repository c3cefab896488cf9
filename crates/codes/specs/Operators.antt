-- The definitions' operators, by the enums of the code.
use Rattle.std.specs.Prelude.{ℕ, get_or}
use Rattle.semantics.specs.Tree.{UnaryOp, Arith, IntOp, BinOp, unary_ops, bin_ops}
use Rattle.semantics.specs.Tree.BinOp.{arith, int_op}
use Rattle.codes.specs.declared.unary.Unary.{Unary}
use Rattle.codes.specs.declared.unary.Unary.TheVariants as U
use Rattle.codes.specs.declared.binary.Binary.{Binary}
use Rattle.codes.specs.declared.binary.Binary.TheVariants as B

abbrev pub unary_op : Unary → UnaryOp
unary_op U.Neg = UnaryOp.neg
unary_op U.Not = UnaryOp.not
unary_op U.BitNot = UnaryOp.bit_not
unary_op U.Ref = UnaryOp.ref

abbrev pub binary_op : Binary → BinOp
binary_op B.Add = arith Arith.add
binary_op B.Sub = arith Arith.sub
binary_op B.Mul = arith Arith.mul
binary_op B.Div = arith Arith.div
binary_op B.Rem = int_op IntOp.rem
binary_op B.Power = BinOp.power
binary_op B.And = int_op IntOp.and
binary_op B.Or = int_op IntOp.or
binary_op B.Xor = int_op IntOp.xor
binary_op B.Lshift = int_op IntOp.lshift
binary_op B.Rshift = int_op IntOp.rshift
binary_op B.Eq = int_op IntOp.eq
binary_op B.Neq = int_op IntOp.neq
binary_op B.Lt = int_op IntOp.lt
binary_op B.Gt = int_op IntOp.gt
binary_op B.Leq = int_op IntOp.leq
binary_op B.Geq = int_op IntOp.geq
binary_op B.LogAnd = BinOp.log_and
binary_op B.LogOr = BinOp.log_or

-- ---- operators by their numbers

abbrev pub unary_at : ℕ → UnaryOp
unary_at n = get_or unary_ops n UnaryOp.ref

abbrev pub binary_at : ℕ → BinOp
binary_at n = get_or bin_ops n BinOp.power
