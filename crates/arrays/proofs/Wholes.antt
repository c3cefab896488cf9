-- Whole literals: size, refusals 11 and 12, and kind.
use mathlib.Core.Path.{◌≡◌, refl, sym, ap, ◌∙◌, subst}
use mathlib.Core.Bool.{Bool, true, false}
use mathlib.Core.List.{List, []}
use mathlib.Core.Logic.{◌⊎◌, inl, inr}
use Rattle.std.specs.Prelude as P
use Rattle.std.specs.Prelude.{Option, None, Some, IfSome}
use Prim.Native.Nat.{ℕ, ◌-◌, ◌≤◌, ◌<◌}
use native.Mathlib.Omega.{arith}
use lib.Dec.{ltb}
use lib.ListN.{get_or}
use borrow.Author.Tests.{ltb-true, ltb-false, lt-ltb, le-ltb, le-leb}
use Rattle.semantics.specs.Text.{Bytes}
use Rattle.semantics.specs.Tree as Tree
use Rattle.semantics.specs.Tree.{Node, Ty, ElemKind}
use Rattle.semantics.specs.Tree.ElemKind.{k_byte}
use Rattle.codes.specs.declared.element.Element.{Element}
use Rattle.codes.specs.Kinds.{element_kind}
use Rattle.semantics.specs.Form.{Row, number_of, forms, make}
use Rattle.semantics.specs.Fold.{Result, bind, Names}
use Rattle.semantics.specs.Fold.Result.{ok, failed}
use Rattle.semantics.specs.Array as Array
use Rattle.semantics.specs.Array.{Filled, none_filled, elem_kind, is_byte_literal, kind_of_values, literal_kind, literal_size, fill, const_array}
use Rattle.decimal.specs.Number as Number
use Rattle.form.specs.Table.{row_node}
use Rattle.semantics.proofs.Common.{never}
use Rattle.form.proofs.Table.{done, ◌also◌}
use Rattle.lines.specs.Lines.{read_at, nodes_in, form_at}
use Rattle.sizes.specs.Sizes.{type_at, TypeLine}
use Rattle.checks.specs.Checks.{Kept, KindLine}
use Rattle.names.specs.Table.{ConstsLogged, names_in}
use Rattle.placements.specs.declared.Extent.{Extent}
use Rattle.placements.specs.Placements.{values_in, Keeps, Filling, LiteralSoFar, Step}
use Rattle.placements.proofs.Same.{keeps-all, keeps_then, keeps-less, keeps-kept}
use Rattle.placements.proofs.Fillings.{filling-kept}
use Rattle.placements.proofs.Values.{values-are, value-stands}
use Rattle.leaf.specs.Folds.{ex_at}
use Rattle.literals.specs.Literals.{els_at, above, AllFilled}
use Rattle.literals.proofs.Names.{log-kept}
use Rattle.literals.proofs.Placing.{goes_on}
use Rattle.literals.proofs.Lines.{line-form, makes, may-line}
use Rattle.literals.proofs.Turns.{literal-refs, literal-is}
use Rattle.arrays.specs.declared.Arrayed.{Arrayed}
use Rattle.arrays.specs.declared.Arrayed.TheVariants.{Literal}
use Rattle.arrays.specs.declared.NoItem.{NoItem}
use Rattle.arrays.specs.declared.NoItem.TheVariants.{Pending, OutsideLiteral}
use Rattle.values.specs.declared.NoValue.{NoValue}
use Rattle.std.specs.Prelude.{Ok, Err}
use Rattle.values.specs.declared.NoValue.TheVariants as N
use Rattle.values.specs.Values.{answered, Outcome}
use Rattle.arrays.specs.Arrays.{item_of, no_item, arrayed_in, ResultStands, ArrayResult, ArrayAnswers, type_of, declared_type, lit_size, own_type, ArrayLine, DeclaredLiteral, Counted, Sized}
use Rattle.arrays.proofs.Allocs.{type-given}
use Rattle.arrays.proofs.Elements.{outside-forms}

-- ---- the kind

module _ {s : Bytes} {declared : Option ℕ} {r count : ℕ} (c : Counted s declared r count) (vs : List Tree.ConstVal) where
  abbrev kind_of_literal : ElemKind
  kind_of_literal = literal_kind (declared_type s declared) (own_type s r) (els_at s r) vs

  module _ (z : declared ≡ None) {v : ℕ} (hv : v ≡ Number.number_up_to 65536 (get_or (read_at s (r - 1)).fields 1 [])) where
    own-may : (v ≡ number_of (get_or (read_at s (r - 1)).fields 1 [])) × ((v ≡ 0 → ⊥) → KindLine 75 s v)
    own-may = may-line c.lit.literal.line 75 (get_or (read_at s (r - 1)).fields 1 []) v hv (literal-refs c.lit.literal).1

    own_is : own_type s r ≡ type_of s v
    own_is = rw (← own-may.0)

    pub own-type-line : (v ≡ 0 → ⊥) → TypeLine s v
    own-type-line h = own-may.1 h

    pub kind-own : {x : ElemKind} → (v ≡ 0 → ⊥) → x ≡ elem_kind (type_at s v) → x ≡ kind_of_literal
    kind-own h e = rw (own_is, z, type-given s v h) e

    module _ (y : v ≡ 0) where
      pub kind-bytes : true ≡ is_byte_literal (els_at s r) → k_byte ≡ kind_of_literal
      kind-bytes e = rw (own_is, z, y, sym e)

      pub kind-values : {x : ElemKind} → false ≡ is_byte_literal (els_at s r) → x ≡ kind_of_values vs → x ≡ kind_of_literal
      kind-values e d = rw (own_is, z, y, sym e) d

-- ---- refusals 11 and 12

abbrev array_of_size : Bytes → Option ℕ → ℕ → ℕ → Filled → Result Array.ConstArray
array_of_size s declared r size f = Array.measured (declared_type s declared) (own_type s r) (els_at s r) f size

module _ (s t : Bytes) (declared : Option ℕ) (r size k next reach : ℕ) (f : Filled) (h : reach ≤ size) (p : Filling t (above 16) k next reach f) where
  pub measured-well : size ≤ 1024 → {kind : Element} → element_kind kind ≡ literal_kind (declared_type s declared) (own_type s r) (els_at s r) (values_in t 0 size) → ArrayResult t (array_of_size s declared r size f) (Ok (Literal kind size))
  measured-well g {kind} e = record {
    result = sym (rw (p.ends size, le-ltb size reach h, le-leb size 1024 g, values-are p size 0 (omega arith), e));
    stands = (g, λ i x. value-stands p i (omega arith));
  }

-- ---- the size

pub size-keeps : {t u : Bytes} → Kept (above 16) t u → Keeps 16384 49152 t u
size-keeps c = keeps-less (omega arith) (omega arith) (keeps-kept {a = 0} (omega arith) c)

module _ {s t u : Bytes} {m : ℕ} {declared : Option ℕ} {r : ℕ} (l : DeclaredLiteral s declared r) (o : ConstsLogged s t m) (c : Kept (above 16) t u) where
  module _ {reach : ℕ} (x : Outcome ℕ) (h : (f : Filled) → reach ≡ f.reach → answered x ≡ literal_size (names_in s t m) (lit_size s r) f) where
    pub sized-none : (e : NoValue) → x ≡ Err e → Sized s t m declared r reach (Err (item_of e)) u
    sized-none e d = record {
      answers = λ k next f few p. record { result = go e f (sym (h f p.reach-is) ∙ ap answered d); stands = tt };
      keeps = size-keeps c;
    }
      where
        go : (e : NoValue) (f : Filled) → literal_size (names_in s t m) (lit_size s r) f ≡ answered (Err e)
            → no_item (item_of e) ≡ bind (literal_size (names_in s t m) (lit_size s r) f) (Array.measured (declared_type s declared) (own_type s r) (els_at s r) f)
        go N.Failed f q = sym (rw q)
        go N.LongString f q = sym (rw q)

    module _ {size : ℕ} (d : x ≡ Ok size) where
      size_is : (k next : ℕ) (f : Filled) → Filling t (above 16) k next reach f → literal_size (names_in s t m) (lit_size s r) f ≡ ok size
      size_is k next f p = sym (h f p.reach-is) ∙ ap answered d

      pub sized-outside : size < reach → Sized s t m declared r reach (Err OutsideLiteral) u
      sized-outside g = record {
        answers = λ k next f few p. record { result = sym (rw (size_is k next f p, p.ends size, lt-ltb size reach g)); stands = tt };
        keeps = size-keeps c;
      }

      pub sized-well : reach ≤ size → (y : P.Result Arrayed NoItem) → ((k next reach : ℕ) (f : Filled) → reach ≤ size → Filling u (above 16) k next reach f → ArrayResult u (array_of_size s declared r size f) y) → Sized s t m declared r reach y u
      sized-well a y g = record {
        answers = λ k next f few p.
            let w = g k next reach f a (filling-kept p u few (omega arith) c) in
            record { result = w.result ∙ sym (rw (size_is k next f p)); stands = w.stands };
        keeps = size-keeps c;
      }

-- ---- all of it

-- what is answered where an element ends the literal
abbrev ended_as : Outcome (Option Extent) → P.Result Arrayed NoItem
ended_as (Ok o) = Err Pending
ended_as (Err e) = Err (item_of e)

abbrev after_filling : Bytes → Bytes → ℕ → Option ℕ → ℕ → Filled → Result Array.ConstArray
after_filling s t m declared r f = bind (literal_size (names_in s t m) (lit_size s r) f) (Array.measured (declared_type s declared) (own_type s r) (els_at s r) f)

module _ {s t u : Bytes} {m : ℕ} {declared : Option ℕ} {r : ℕ} (l : DeclaredLiteral s declared r) (o : ConstsLogged s t m) (y : Outcome (Option Extent)) (a : AllFilled t (fill (names_in s t m) (els_at s r) none_filled) y u) where
  literal-by : const_array (names_in s t m) (declared_type s declared) (ex_at s r) ≡ bind (fill (names_in s t m) (els_at s r) none_filled) (after_filling s t m declared r)
  literal-by = rw (literal-is l.literal)

  -- one that has ended
  pub literal-ended : (z : Outcome (Option Extent)) → y ≡ z → goes_on z ≡ false → ArrayAnswers t (const_array (names_in s t m) (declared_type s declared) (ex_at s r)) (ended_as z) u
  literal-ended z d h = record { array = record { result = sym (literal-by ∙ go z h (subst (λ (b : Outcome (Option Extent)). Step u (above 16) a.count b (fill (names_in s t m) (els_at s r) none_filled)) d a.step)); stands = ended-stands z }; keeps = a.keeps }
    where
      go : (b : Outcome (Option Extent)) → goes_on b ≡ false → Step u (above 16) a.count b (fill (names_in s t m) (els_at s r) none_filled) → bind (fill (names_in s t m) (els_at s r) none_filled) (after_filling s t m declared r) ≡ arrayed_in u (ended_as b)
      go (Ok (Some x)) e g = never (sym e)
      go (Ok None) e g = ap (λ (q : Result Filled). bind q (after_filling s t m declared r)) g
      go (Err N.Failed) e g = ap (λ (q : Result Filled). bind q (after_filling s t m declared r)) g
      go (Err N.LongString) e g = ap (λ (q : Result Filled). bind q (after_filling s t m declared r)) g

      ended-stands : (b : Outcome (Option Extent)) → ResultStands u (ended_as b)
      ended-stands (Ok o) = tt
      ended-stands (Err e) = tt

  pub literal-well : {b : Extent} → y ≡ Ok (Some b) → {x : P.Result Arrayed NoItem} {w : Bytes} → Sized s u m declared r b.reach x w → ArrayAnswers t (const_array (names_in s t m) (declared_type s declared) (ex_at s r)) x w
  literal-well {b} d {x} {w} z =
      let g : LiteralSoFar u (above 16) a.count b.next b.reach (fill (names_in s t m) (els_at s r) none_filled) = subst (λ (v : Outcome (Option Extent)). Step u (above 16) a.count v (fill (names_in s t m) (els_at s r) none_filled)) d a.step in
      let q = rw (log-kept a.keeps o) at (z.answers a.count b.next g.literal a.few g.filling) in
      record { array = record { result = q.result ∙ sym (literal-by ∙ ap (λ (v : Result Filled). bind v (after_filling s t m declared r)) g.result); stands = q.stands }; keeps = keeps_then a.keeps z.keeps }

-- ---- other lines

module _ (ns : List Node) (fs : List Bytes) (names : Names) (o : Option Ty) where
  abbrev NoArray : Row → Type 0
  NoArray w = const_array names o (make w.parts w.make ns fs).ex ≡ failed

  no-array : (f : ℕ) → f < 42 → (f < 17) ⊎ (19 ≤ f) → const_array names o (row_node ns f fs).ex ≡ failed
  unfolding forms
  no-array =
      outside-forms NoArray 17 19 (omega arith) (omega arith)
      (refl also refl also refl also refl also refl also refl also refl also refl also refl also refl also refl also refl also refl also refl also refl also refl also refl also done)
      (refl also refl also refl also refl also refl also refl also refl also refl also refl also refl also refl also refl also refl also refl also refl also refl also refl also refl also refl also refl also refl also refl also refl also done)

pub other-line : {s t : Bytes} {declared : Option ℕ} {r : ℕ} → ArrayLine s declared r → (m : ℕ) {f : ℕ} → f ≡ form_at s (r - 1) → (f ≡ 17 → ⊥) → (f ≡ 18 → ⊥) → ArrayAnswers t (const_array (names_in s t m) (declared_type s declared) (ex_at s r)) (Err Pending) t
other-line {s} {t} {declared} {r} k m {f} e a b = record {
  array = record { result = sym (ap (λ (x : Node). const_array (names_in s t m) (declared_type s declared) x.ex) (makes k.line refl) ∙ no-array (nodes_in s) (read_at s (r - 1)).fields (names_in s t m) (declared_type s declared) (form_at s (r - 1)) (line-form k.line).0 (go (ltb (form_at s (r - 1)) 17) refl)); stands = tt };
  keeps = keeps-all;
}
  where
    go : (c : Bool) → ltb (form_at s (r - 1)) 17 ≡ c → (form_at s (r - 1) < 17) ⊎ (19 ≤ form_at s (r - 1))
    go true d = inl (ltb-true (form_at s (r - 1)) 17 d)
    go false d = let x : 17 ≤ form_at s (r - 1) = ltb-false (form_at s (r - 1)) 17 d in inr (omega (arith, a, b))
