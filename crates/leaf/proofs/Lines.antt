-- The lines of expressions: their fields, the lines that they refer to, and what they make.
use mathlib.Core.Path.{◌≡◌, refl, sym, ap, ◌∙◌, subst}
use mathlib.Core.Bool.{Bool, true, false, cond}
use mathlib.Core.List.{List, [], ◌∷◌, ◌++◌}
use Rattle.std.specs.Prelude.{Option, None, Some}
use Prim.Native.Nat.{ℕ, zero, suc, ◌+◌, ◌-◌, ◌≤◌, ◌<◌}
use native.Mathlib.Omega.{arith}
use lib.Dec.{leb, ltb, eqb}
use lib.IntN.{ℤ}
use lib.ListN.{length, get_or, length-append, get_or-append}
use lib.Seq.{get_or-append_seam}
use borrow.Author.Tests.{leb-true, ltb-true, ne_eqb, eqb-true, eqb-false}
use Rattle.semantics.specs.Text as Text
use Rattle.semantics.specs.Text.{Bytes, all}
use Rattle.semantics.specs.Tree.{Ty, ArrayEx, Node, basic_of, by_form}
use Rattle.semantics.specs.Tree.Ex.{constant, ident, mod_qual, unary, binary, cast, len}
use Rattle.semantics.specs.Fold.{Names, fold}
use Rattle.semantics.specs.Fold.Result.{failed}
use Rattle.semantics.specs.Form.{Read, Kind, Atom, Part, letter, forms, number_of, fits, holds, is_number, node_at}
use Rattle.semantics.specs.Form.Atom.{name, key, ref, maybe, unary_op, binary_op, line_or_col, size, i64, offset, real, text}
use Rattle.semantics.specs.Form.Part.{one, many}
use Rattle.semantics.specs.Refusal.{Ref, ref_of, refs_in, refs_of, deepest}
use Rattle.decimal.specs.Number as Number
use Rattle.form.specs.Table.{row_at, row_node}
use Rattle.semantics.proofs.Common.{never, both}
use Rattle.lines.specs.Lines.{lines_in, reads_in, read_at, nodes_in, form_at}
use Rattle.lines.proofs.Line.{line-count, form-low, form-is, kind-is, read_fits}
use Rattle.refs.specs.Refs.{fine_ref, fine_refs}
use Rattle.refs.proofs.Fine.{needed-ref}
use Rattle.refs.proofs.Nodes.{node-at}
use Rattle.nesting.specs.Nesting.{depths_from, depth_of, lower_refs}
use Rattle.checks.specs.Checks.{Checked}
use Rattle.sizes.specs.Sizes.{type_at}
use Rattle.sizes.proofs.Forms.{type-form, ex-form, of_types}
use Rattle.refs.proofs.Fields.{number-exact}
use Rattle.codes.specs.Operators.{unary_at, binary_at}
use Rattle.values.specs.Values.{basic_at}
use Rattle.leaf.specs.Folds.{ex_at, scalar_of, ExLine}

-- ---- fields by their places

-- field j of a form holds an a
abbrev pub HoldsAtom : List Part → ℕ → Atom → Type 0
HoldsAtom [] j a = ⊥
HoldsAtom (one b ∷ ps) zero a = b ≡ a
HoldsAtom (one b ∷ ps) (suc j) a = HoldsAtom ps j a
HoldsAtom (many b ∷ ps) j a = ⊥

field-holds : (ps : List Part) (fs : List Bytes) (j : ℕ) (a : Atom) → HoldsAtom ps j a → fits ps fs ≡ true → holds a (get_or fs j []) ≡ true
field-holds [] fs j a f h = absurd f
field-holds (one b ∷ ps) [] j a f h = never h
field-holds (one b ∷ ps) (x ∷ fs) zero a f h = subst (λ (c : Atom). holds c x ≡ true) f (both (holds b x) (fits ps fs) h).0
field-holds (one b ∷ ps) (x ∷ fs) (suc j) a f h = field-holds ps fs j a f (both (holds b x) (fits ps fs) h).1
field-holds (many b ∷ ps) fs j a f h = absurd f

-- what holds of all references holds of a field that is one
module _ (P : Ref → Bool) where
  abbrev Passes : Kind → Bytes → Type 0
  Passes k x = P (record { kind = letter k; optional = false; line = number_of x }) ≡ true

  later-refs : (a : Atom) (x : Bytes) (rs : List Ref) → all P (ref_of a x rs) ≡ true → all P rs ≡ true
  later-refs name x rs h = h
  later-refs key x rs h = h
  later-refs (ref k) x rs h = (both (P (record { kind = letter k; optional = false; line = number_of x })) (all P rs) h).1
  later-refs (maybe k) x rs h = (both (P (record { kind = letter k; optional = true; line = number_of x })) (all P rs) h).1
  later-refs unary_op x rs h = h
  later-refs binary_op x rs h = h
  later-refs line_or_col x rs h = h
  later-refs size x rs h = h
  later-refs i64 x rs h = h
  later-refs offset x rs h = h
  later-refs real x rs h = h
  later-refs text x rs h = h

  field-ref : (ps : List Part) (fs : List Bytes) (j : ℕ) (k : Kind) → HoldsAtom ps j (ref k) → fits ps fs ≡ true → all P (refs_in ps fs) ≡ true → Passes k (get_or fs j [])
  field-ref [] fs j k f h a = absurd f
  field-ref (one b ∷ ps) [] j k f h a = never h
  field-ref (one b ∷ ps) (x ∷ fs) zero k f h a =
      let q : all P (ref_of (ref k) x (refs_in ps fs)) ≡ true = subst (λ (c : Atom). all P (ref_of c x (refs_in ps fs)) ≡ true) f a in
      (both (P (record { kind = letter k; optional = false; line = number_of x })) (all P (refs_in ps fs)) q).0
  field-ref (one b ∷ ps) (x ∷ fs) (suc j) k f h a = field-ref ps fs j k f (both (holds b x) (fits ps fs) h).1 (later-refs b x (refs_in ps fs) a)
  field-ref (many b ∷ ps) fs j k f h a = absurd f

-- ---- depths

one_more : (ds : List ℕ) (d : ℕ) → 0 < d → ((j : ℕ) → j < length ds → 0 < get_or ds j 0) → (j : ℕ) → j < length (ds ++ (d ∷ [])) → 0 < get_or (ds ++ (d ∷ [])) j 0
one_more ds d p h j l = go (eqb j (length ds)) refl
  where
    go : (b : Bool) → eqb j (length ds) ≡ b → 0 < get_or (ds ++ (d ∷ [])) j 0
    go true q = let e = eqb-true j (length ds) q in rw (e, get_or-append_seam ds d [] 0) p
    go false q =
        let n = eqb-false j (length ds) q in
        let k : j < length ds = omega (arith, n, length-append ds (d ∷ [])) in
        rw (get_or-append ds (d ∷ []) 0 j k) (h j k)

-- every line is at least 1 deep
depths-some : (ls : List Read) (ds : List ℕ) → ((j : ℕ) → j < length ds → 0 < get_or ds j 0) → (j : ℕ) → j < length ds + length ls → 0 < get_or (depths_from ds ls) j 0
unfolding depths_from
depths-some [] ds h j l = h j (omega arith)
depths-some (x ∷ ls) ds h j l =
    let d = suc (deepest ds (refs_of x)) in
    depths-some ls (ds ++ (d ∷ [])) (one_more ds d (omega arith) h) j (omega (arith, length-append ds (d ∷ [])))

-- ---- numbers in fields

up_to : (m : ℕ) (f : Bytes) → Text.holds_of (λ (k : ℕ). leb k m) (Text.nat_of f) ≡ true → (is_number f ≡ true) × (number_of f ≤ m)
up_to m f = go (Text.nat_of f)
  where
    go : (o : Option ℕ) → Text.holds_of (λ (k : ℕ). leb k m) o ≡ true → (Text.holds_of (λ (k : ℕ). true) o ≡ true) × (Text.or_else 0 o ≤ m)
    go None h = never h
    go (Some k) h = (refl, leb-true k m h)

pub small-number : (m : ℕ) (f : Bytes) → m ≤ 65536 → Text.holds_of (λ (k : ℕ). leb k m) (Text.nat_of f) ≡ true → Number.number_up_to 65536 f ≡ number_of f
small-number m f l h = let w = up_to m f h in number-exact f w.0 (omega (arith, w.1))

-- ---- a line

-- a field x of line r refers to line v, which is of kind k
pub record RefTo (s : Bytes) (r k : ℕ) (x : Bytes) (v : ℕ) : Type 0 where
  pub first : 0 < v
  pub before : v < r
  pub last : v ≤ lines_in s
  pub kind : letter (read_at s (v - 1)).form.kind ≡ k
  pub lower : depth_of (reads_in s) (v - 1) < depth_of (reads_in s) (r - 1)
  pub exact : Number.number_up_to 65536 x ≡ v

module _ {s : Bytes} {r : ℕ} (l : ExLine s r) where
  pub in-sheet : r - 1 < lines_in s
  in-sheet = omega (arith, l.first, l.last)

  pub ex-is : ex_at s r ≡ (row_node (nodes_in s) (form_at s (r - 1)) (read_at s (r - 1)).fields).ex
  ex-is = ap (λ (m : Node). m.ex) (node-at s l.checked.whole l.checked.good (r - 1) in-sheet)

  pub form-span : (8 ≤ form_at s (r - 1)) × (form_at s (r - 1) < 20)
  form-span = ex-form (form_at s (r - 1)) (form-low s l.checked.whole (r - 1) in-sheet) (sym (kind-is s l.checked.whole (r - 1) in-sheet) ∙ l.kind)

  pub depth-some : 0 < depth_of (reads_in s) (r - 1)
  depth-some = depths-some (reads_in s) [] (λ j h. absurd (omega arith)) (r - 1) (omega (arith, line-count s, in-sheet))

  module _ (f j : ℕ) (e : form_at s (r - 1) ≡ f) where
    pub field-good : (a : Atom) → HoldsAtom (row_at f).parts j a → holds a (get_or (read_at s (r - 1)).fields j []) ≡ true
    field-good a p = field-holds (row_at f).parts (read_at s (r - 1)).fields j a p (rw e at (read_fits s l.checked.whole (r - 1) in-sheet))

    ref_passes : (P : Ref → Bool) (k : Kind) → HoldsAtom (row_at f).parts j (ref k) → all P (refs_of (read_at s (r - 1))) ≡ true → Passes P k (get_or (read_at s (r - 1)).fields j [])
    ref_passes P k p h =
        let q : (read_at s (r - 1)).form ≡ row_at f = form-is s l.checked.whole (r - 1) in-sheet ∙ ap row_at e in
        field-ref P (row_at f).parts (read_at s (r - 1)).fields j k p (rw e at (read_fits s l.checked.whole (r - 1) in-sheet)) (rw q at h)

    pub ref-good : (k : Kind) → HoldsAtom (row_at f).parts j (ref k) → RefTo s r (letter k) (get_or (read_at s (r - 1)).fields j []) (number_of (get_or (read_at s (r - 1)).fields j []))
    unfolding fine_refs lower_refs
    ref-good k p =
        let x = get_or (read_at s (r - 1)).fields j [] in
        let g = needed-ref (reads_in s) (r - 1 + 1) (letter k) (number_of x) (ref_passes (fine_ref (reads_in s) (r - 1 + 1)) k p (l.checked.fine (r - 1) in-sheet)) in
        let d = ref_passes (λ (y : Ref). cond (eqb y.line 0) true (ltb (depth_of (reads_in s) (y.line - 1)) (depth_of (reads_in s) (r - 1)))) k p (l.checked.falls (r - 1) in-sheet) in
        let h : number_of x < r - 1 + 1 = g.1 in
        record {
          first = omega (arith, g.0);
          before = omega (arith, l.first);
          last = omega (arith, l.last);
          kind = g.2;
          lower = ltb-true (depth_of (reads_in s) (number_of x - 1)) (depth_of (reads_in s) (r - 1)) (rw (ne_eqb (number_of x) 0 g.0) at d);
          exact = number-exact x (field-good (ref k) p) (omega (arith, l.last, l.checked.whole.few));
        }

-- ---- the basic type of a type's line

basic-of : (ns : List Node) (fs : List Bytes) (f : ℕ) → f < 8 → basic_of (row_node ns f fs).ty ≡ basic_at f
unfolding forms
basic-of ns fs = of_types (λ f. basic_of (row_node ns f fs).ty ≡ basic_at f) refl refl refl refl refl refl refl refl

pub basic-is : (s : Bytes) → Checked s → (v : ℕ) → 0 < v → v ≤ lines_in s → letter (read_at s (v - 1)).form.kind ≡ 75 → basic_of (type_at s v) ≡ basic_at (form_at s (v - 1))
basic-is s c v h l k =
    let i : v - 1 < lines_in s = omega arith in
    let f : form_at s (v - 1) < 8 = type-form (form_at s (v - 1)) (form-low s c.whole (v - 1) i) (sym (kind-is s c.whole (v - 1) i) ∙ k) in
    ap (λ (m : Node). basic_of m.ty) (node-at s c.whole c.good (v - 1) i) ∙ basic-of (nodes_in s) (read_at s (v - 1)).fields (form_at s (v - 1)) f

-- ---- what the forms make

module _ (ns : List Node) where
  pub made-scalar : (f : ℕ) (fs : List Bytes) → 8 ≤ f → f < 11 → (row_node ns f fs).ex ≡ constant (scalar_of f (get_or fs 0 []))
  unfolding forms scalar_of
  made-scalar zero fs h k = absurd (omega arith)
  made-scalar (suc zero) fs h k = absurd (omega arith)
  made-scalar (suc (suc zero)) fs h k = absurd (omega arith)
  made-scalar (suc (suc (suc zero))) fs h k = absurd (omega arith)
  made-scalar (suc (suc (suc (suc zero)))) fs h k = absurd (omega arith)
  made-scalar (suc (suc (suc (suc (suc zero))))) fs h k = absurd (omega arith)
  made-scalar (suc (suc (suc (suc (suc (suc zero)))))) fs h k = absurd (omega arith)
  made-scalar (suc (suc (suc (suc (suc (suc (suc zero))))))) fs h k = absurd (omega arith)
  made-scalar (suc (suc (suc (suc (suc (suc (suc (suc zero)))))))) [] h k = refl
  made-scalar (suc (suc (suc (suc (suc (suc (suc (suc zero)))))))) (x ∷ fs) h k = refl
  made-scalar (suc (suc (suc (suc (suc (suc (suc (suc (suc zero))))))))) [] h k = refl
  made-scalar (suc (suc (suc (suc (suc (suc (suc (suc (suc zero))))))))) (x ∷ fs) h k = refl
  made-scalar (suc (suc (suc (suc (suc (suc (suc (suc (suc (suc zero)))))))))) [] h k = refl
  made-scalar (suc (suc (suc (suc (suc (suc (suc (suc (suc (suc zero)))))))))) (x ∷ fs) h k = refl
  made-scalar (suc (suc (suc (suc (suc (suc (suc (suc (suc (suc (suc f))))))))))) fs h k = absurd (omega arith)

  pub made-ident : (fs : List Bytes) → (row_node ns 11 fs).ex ≡ ident (get_or fs 0 [])
  unfolding forms
  made-ident [] = refl
  made-ident (x ∷ fs) = refl

  pub made-qualified : (fs : List Bytes) → (row_node ns 12 fs).ex ≡ mod_qual (node_at ns (number_of (get_or fs 0 []))).ex (get_or fs 1 [])
  unfolding forms
  made-qualified [] = refl
  made-qualified (x ∷ []) = refl
  made-qualified (x ∷ (y ∷ fs)) = refl

  pub made-unary : (fs : List Bytes) → (row_node ns 13 fs).ex ≡ unary (unary_at (number_of (get_or fs 0 []))) (node_at ns (number_of (get_or fs 1 []))).ex
  unfolding forms
  made-unary [] = refl
  made-unary (x ∷ []) = refl
  made-unary (x ∷ (y ∷ fs)) = refl

  pub made-binary : (fs : List Bytes) → (row_node ns 14 fs).ex ≡ binary (node_at ns (number_of (get_or fs 1 []))).ex (binary_at (number_of (get_or fs 0 []))) (node_at ns (number_of (get_or fs 2 []))).ex
  unfolding forms
  made-binary [] = refl
  made-binary (x ∷ []) = refl
  made-binary (x ∷ (y ∷ [])) = refl
  made-binary (x ∷ (y ∷ (z ∷ fs))) = refl

  pub made-cast : (fs : List Bytes) → (row_node ns 15 fs).ex ≡ cast (node_at ns (number_of (get_or fs 0 []))).ty (node_at ns (number_of (get_or fs 1 []))).ex
  unfolding forms
  made-cast [] = refl
  made-cast (x ∷ []) = refl
  made-cast (x ∷ (y ∷ fs)) = refl

  pub made-len : (fs : List Bytes) → (row_node ns 16 fs).ex ≡ len (node_at ns (number_of (get_or fs 0 []))).ex
  unfolding forms
  made-len [] = refl
  made-len (x ∷ fs) = refl

  -- forms 17 to 19
  pub made-failing : (names : Names) (iota : ℤ) (fs : List Bytes) (f : ℕ) → f < 3 → fold names iota (row_node ns (17 + f) fs).ex ≡ failed
  unfolding forms fold
  made-failing names iota fs zero h = refl
  made-failing names iota fs (suc zero) h = refl
  made-failing names iota fs (suc (suc zero)) h = refl
  made-failing names iota fs (suc (suc (suc f))) h = absurd (omega arith)

  -- all but form 11 are no names
  pub made-nameless : {A : Type 0} (d : A) (n : Bytes → A) (fs : List Bytes) (f : ℕ) → f < 12 → (f ≡ 3 → ⊥) → by_form n (λ (t : Ty). d) (λ (a : ArrayEx). d) d (row_node ns (8 + f) fs).ex ≡ d
  unfolding forms
  made-nameless d n fs zero h k = refl
  made-nameless d n fs (suc zero) h k = refl
  made-nameless d n fs (suc (suc zero)) h k = refl
  made-nameless d n fs (suc (suc (suc zero))) h k = absurd (k refl)
  made-nameless d n fs (suc (suc (suc (suc zero)))) h k = refl
  made-nameless d n fs (suc (suc (suc (suc (suc zero))))) h k = refl
  made-nameless d n fs (suc (suc (suc (suc (suc (suc zero)))))) h k = refl
  made-nameless d n fs (suc (suc (suc (suc (suc (suc (suc zero))))))) h k = refl
  made-nameless d n fs (suc (suc (suc (suc (suc (suc (suc (suc zero)))))))) h k = refl
  made-nameless d n fs (suc (suc (suc (suc (suc (suc (suc (suc (suc zero))))))))) h k = refl
  made-nameless d n fs (suc (suc (suc (suc (suc (suc (suc (suc (suc (suc zero)))))))))) h k = refl
  made-nameless d n fs (suc (suc (suc (suc (suc (suc (suc (suc (suc (suc (suc zero))))))))))) h k = refl
  made-nameless d n fs (suc (suc (suc (suc (suc (suc (suc (suc (suc (suc (suc (suc f)))))))))))) h k = absurd (omega arith)
