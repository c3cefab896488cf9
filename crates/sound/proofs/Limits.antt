-- What every node of a checked sheet keeps to: its names hold no separators, and its literals have 64 bits or at most 256 bytes.
use Prim.Native.Nat.{◌≤◌}
use mathlib.Core.Path.{◌≡◌}
use mathlib.Core.Bool.{true}
use Rattle.std.specs.Prelude.{Option, None, Some}
use lib.ListN.{length}
use lib.Dec.{T}
use lib.Ieee.{binary64, fits}
use Rattle.semantics.specs.Tree.{Ex, ArrayEx, El, Els, ConstVal, ConstDecl, VarDecl, Node}
use Rattle.semantics.specs.Tree.ConstVal.{v_int, v_real, v_str}
use Rattle.semantics.specs.Tree.Ex.{constant, ident, mod_qual, unary, binary, cast, len, array_ex, other_ex}
use Rattle.semantics.specs.Tree.ArrayEx.{alloc, lit}
use Rattle.semantics.specs.Tree.El.{next, star, at}
use Rattle.semantics.specs.Tree.Els.{no_els, and_el}
use Rattle.write.specs.Plain.{is_plain_text}
use Rattle.stored.proofs.Rows.{Plain}
use Rattle.stored.proofs.Items.{Fits64}
use Rattle.stored.proofs.Names.{PlainFields, PlainAdt}
use Rattle.laws.specs.Every.{Every}

-- an integer of 64 bits, a real that binary64 holds, or a string of at most 256 bytes
abbrev pub Limited : ConstVal → Type 0
Limited (v_int z) = Fits64 z
Limited (v_real x) = T (fits binary64 x)
Limited (v_str s) = length s ≤ 256

abbrev pub LimitedOption : Option ConstVal → Type 0
LimitedOption None = Unit {0}
LimitedOption (Some v) = Limited v

-- the literals that a fold can reach; the length of an `alloc`, sizes and selectors leave no values
abbrev mutual
  pub LimitedEx : Ex → Type 0
  LimitedEx (constant v) = Limited v
  LimitedEx (ident n) = Unit {0}
  LimitedEx (mod_qual e n) = Unit {0}
  LimitedEx (unary o e) = LimitedEx e
  LimitedEx (binary l o r) = LimitedEx l × LimitedEx r
  LimitedEx (cast t e) = LimitedEx e
  LimitedEx (len e) = LimitedEx e
  LimitedEx (array_ex a) = LimitedArray a
  LimitedEx other_ex = Unit {0}

  pub LimitedArray : ArrayEx → Type 0
  LimitedArray (alloc e t) = Unit {0}
  LimitedArray (lit s t es) = LimitedEls es

  pub LimitedEl : El → Type 0
  LimitedEl (next e) = LimitedEx e
  LimitedEl (star e) = LimitedEx e
  LimitedEl (at e ss) = LimitedEx e

  pub LimitedEls : Els → Type 0
  LimitedEls no_els = Unit {0}
  LimitedEls (and_el e es) = LimitedEl e × LimitedEls es

abbrev pub LimitedInit : Option Ex → Type 0
LimitedInit None = Unit {0}
LimitedInit (Some e) = LimitedEx e

abbrev pub LimitedDecl : ConstDecl → Type 0
LimitedDecl c = (is_plain_text c.name ≡ true) × LimitedEx c.value

abbrev pub LimitedVar : VarDecl → Type 0
LimitedVar v = Plain v.names × LimitedInit v.init

pub record LimitedNode (m : Node) : Type 0 where
  pub ex : LimitedEx m.ex
  pub el : LimitedEl m.el
  pub fd : Plain m.fd.names
  pub tags : Plain m.case.tags
  pub fields : PlainFields m.case.fields
  pub adts : Every PlainAdt m.declares.adts
  pub consts : Every LimitedDecl m.declares.consts
  pub vars : Every LimitedVar m.declares.vars
  pub opens : Plain m.declares.opens
