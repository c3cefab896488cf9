-- First values, by what folds and arrays give.
use mathlib.Core.Path.{◌≡◌, refl, sym, ap, ◌∙◌, subst}
use mathlib.Core.Bool.{Bool, true, false, not}
use mathlib.Core.List.{List, []}
use Rattle.std.specs.Prelude.{Option, None, Some}
use Prim.Native.Nat.{ℕ, ◌-◌}
use native.Mathlib.Omega.{arith}
use lib.ListN.{get_or}
use Rattle.semantics.specs.Text.{Bytes}
use Rattle.semantics.specs.Tree as Tree
use Rattle.semantics.specs.Tree.{Ty, Ex, elem_of}
use Rattle.semantics.specs.Fold.{Result, bind, Names, fold_at0}
use Rattle.semantics.specs.Fold.Result.{ok, failed, refuse}
use Rattle.semantics.specs.Array.{ConstArray, const_array}
use Rattle.semantics.specs.Global.{Init, array_value, first_value, init_of, plain_init, laid_names, none_of, var_value}
use Rattle.decimal.specs.Number as Number
use Rattle.lines.specs.Lines.{lines_in, read_at}
use Rattle.values.specs.declared.ConstVal.{ConstVal}
use Rattle.std.specs.Prelude as P
use Rattle.std.specs.Prelude.{Ok, Err}
use Rattle.values.specs.declared.NoValue.{NoValue}
use Rattle.values.specs.declared.NoValue.TheVariants as N
use Rattle.values.specs.Values.{Outcome, result_in, ResultAt}
use Rattle.names.specs.Table.{ConstsLogged, names_in}
use Rattle.placements.specs.Placements.{Keeps}
use Rattle.placements.proofs.Same.{keeps-all, keeps_then, keeps-less, keeps-kept}
use Rattle.leaf.specs.Folds.{ex_at, Folds}
use Rattle.literals.proofs.Names.{log-kept, logged-kept}
use Rattle.literals.proofs.Selectors.{folds-to}
use Rattle.arrays.specs.declared.Arrayed.{Arrayed}
use Rattle.arrays.specs.declared.Arrayed.TheVariants.{Alloc, Literal}
use Rattle.arrays.specs.declared.NoItem.{NoItem}
use Rattle.arrays.specs.declared.NoItem.TheVariants.{Pending, LongString, LongAlloc, NegativeAlloc, OutsideLiteral, LongLiteral}
use Rattle.arrays.specs.Arrays.{item_of, arrayed_in, ResultStands, ArrayAnswers, declared_type, ArrayLine, DeclaredElement}
use Rattle.global_table.specs.Table.{VarLine, var_on, names_on}
use Rattle.vars.specs.declared.First.{First}
use Rattle.vars.specs.declared.First.TheVariants.{Value, Array}
use Rattle.vars.specs.First.{init_in, InitStands, Inits, Valued, or_pending}
use Rattle.vars.proofs.Lines.{init-none, init-some, value_line}

-- ---- arrays

-- an array as a first value
abbrev pub as_first : P.Result Arrayed NoItem → P.Result (Option First) NoItem
as_first (Ok x) = Ok (Some (Array x))
as_first (Err e) = Err e

module _ {s : Bytes} {r q : ℕ} (k : Valued s r q) (d : Option ℕ) (e : declared_type s d ≡ elem_of (var_on s r).ty) (h : DeclaredElement s d) where
  pub array-line : ArrayLine s d q
  array-line = record { line = k.value; declares = h }

  pub array-is : {t : Bytes} (m : ℕ) (x : P.Result Arrayed NoItem) {u : Bytes} → ArrayAnswers t (const_array (names_in s t m) (declared_type s d) (ex_at s q)) x u
      → {y : P.Result Arrayed NoItem} → x ≡ y → Inits t (array_value (const_array (names_in s t m) (elem_of (var_on s r).ty) (ex_at s q))) (as_first y) u
  array-is {t} m x {u} a {y} i = record {
    result = go y ∙ ap (λ (z : P.Result Arrayed NoItem). array_value (arrayed_in u z)) (sym i) ∙ ap array_value a.array.result ∙ rw e;
    stands = stand y (subst (ResultStands u) i a.array.stands);
    keeps = a.keeps;
  }
    where
      go : (z : P.Result Arrayed NoItem) → init_in u (as_first z) ≡ array_value (arrayed_in u z)
      go (Ok (Alloc k n)) = refl
      go (Ok (Literal k n)) = refl
      go (Err Pending) = refl
      go (Err LongString) = refl
      go (Err LongAlloc) = refl
      go (Err NegativeAlloc) = refl
      go (Err OutsideLiteral) = refl
      go (Err LongLiteral) = refl

      stand : (z : P.Result Arrayed NoItem) → ResultStands u z → InitStands u (as_first z)
      stand (Ok x) p = p
      stand (Err e) p = tt

-- ---- by what a fold gives

module _ {s t : Bytes} {r : ℕ} (l : VarLine s r) {q : ℕ} (hq : q ≡ Number.number_up_to 65536 (get_or (read_at s (r - 1)).fields 1 [])) where
  pub first-none : (ns : Names) → q ≡ 0 → Inits t (init_of ns (var_on s r).ty (var_on s r).init) (Ok None) t
  first-none ns z = record { result = sym (rw (init-none l hq z)); stands = tt; keeps = keeps-all }

  pub plain-none : (ns : Names) → q ≡ 0 → Inits t (or_pending (plain_init ns (var_on s r).init)) (Ok None) t
  plain-none ns z = record { result = sym (rw (init-none l hq z)); stands = tt; keeps = keeps-all }

  module _ (z : q ≡ 0 → ⊥) {m : ℕ} (o : ConstsLogged s t m) {u : Bytes} {x : Outcome ConstVal} (g : Folds s t m 0 q 49152 u x) where
    keeps-fold : Keeps 16384 49152 t u
    keeps-fold = keeps-less (omega arith) (omega arith) (keeps-kept {a = 0} (omega arith) g.kept)

    folded : fold_at0 (names_in s t m) (ex_at s q) ≡ result_in u x
    folded = sym (folds-to g)

    -- the first value is f of what the fold gives
    module _ (f : Option Ex → Result Init) (h : Result Tree.ConstVal → Result Init) (i : f (Some (ex_at s q)) ≡ h (fold_at0 (names_in s t m) (ex_at s q))) where
      by-fold : f (var_on s r).init ≡ h (result_in u x)
      by-fold = ap f (init-some l hq z) ∙ i ∙ ap h folded

      fold-value : {v : ConstVal} → x ≡ Ok v → ((w : Tree.ConstVal) → h (ok w) ≡ ok (Init.const_init w)) → Inits t (f (var_on s r).init) (Ok (Some (Value v))) u
      unfolding result_in
      fold-value d p = record { result = sym (by-fold ∙ rw d (p _)); stands = subst (ResultAt 49152) d g.answer.at; keeps = keeps-fold }

      fold-long : x ≡ Err N.LongString → h (refuse 8) ≡ refuse 8 → Inits t (f (var_on s r).init) (Err LongString) u
      unfolding result_in
      fold-long d p = record { result = sym (by-fold ∙ rw d p); stands = tt; keeps = keeps-fold }

    pub first-folded : {v : ConstVal} → x ≡ Ok v → Inits t (init_of (names_in s t m) (var_on s r).ty (var_on s r).init) (Ok (Some (Value v))) u
    first-folded d = fold-value (init_of (names_in s t m) (var_on s r).ty) (λ (a : Result Tree.ConstVal). first_value a (const_array (names_in s t m) (elem_of (var_on s r).ty) (ex_at s q))) refl d (λ w. refl)

    pub first-long : x ≡ Err N.LongString → Inits t (init_of (names_in s t m) (var_on s r).ty (var_on s r).init) (Err LongString) u
    first-long d = fold-long (init_of (names_in s t m) (var_on s r).ty) (λ (a : Result Tree.ConstVal). first_value a (const_array (names_in s t m) (elem_of (var_on s r).ty) (ex_at s q))) refl d refl

    pub plain-folded : {v : ConstVal} → x ≡ Ok v → Inits t (or_pending (plain_init (names_in s t m) (var_on s r).init)) (Ok (Some (Value v))) u
    plain-folded d = fold-value (λ (o : Option Ex). or_pending (plain_init (names_in s t m) o)) (λ (a : Result Tree.ConstVal). or_pending (bind a (λ (w : Tree.ConstVal). ok (Init.const_init w)))) refl d (λ w. refl)

    pub plain-stopped : (e : NoValue) → x ≡ Err e → Inits t (or_pending (plain_init (names_in s t m) (var_on s r).init)) (Err (item_of e)) u
    unfolding result_in
    plain-stopped N.Failed d = record { result = sym (rw (init-some l hq z, folded, d)); stands = tt; keeps = keeps-fold }
    plain-stopped N.LongString d = fold-long (λ (o : Option Ex). or_pending (plain_init (names_in s t m) o)) (λ (a : Result Tree.ConstVal). or_pending (bind a (λ (w : Tree.ConstVal). ok (Init.const_init w)))) refl d refl

    module _ (d : x ≡ Err N.Failed) where
      pub array-task : (Valued s r q) × (ConstsLogged s u m)
      array-task = (record { line = l; value = value_line l hq z }, logged-kept keeps-fold o)

      pub first-array : {y : P.Result (Option First) NoItem} {w : Bytes} → Inits u (array_value (const_array (names_in s u m) (elem_of (var_on s r).ty) (ex_at s q))) y w → Inits t (init_of (names_in s t m) (var_on s r).ty (var_on s r).init) y w
      unfolding result_in
      first-array a = record {
        result = rw (log-kept keeps-fold o) at a.result ∙ sym (rw (init-some l hq z, folded, d));
        stands = a.stands;
        keeps = keeps_then keeps-fold a.keeps;
      }

-- ---- by whether a name is laid out

settled-first : (a : Result Tree.ConstVal) (b : Result ConstArray) → or_pending (first_value a b) ≡ first_value a b
settled-first (ok v) b = refl
settled-first failed (ok a) = refl
settled-first failed failed = refl
settled-first failed (refuse r) = refl
settled-first (refuse r) b = refl

pub settled-init : (ns : Names) (t : Ty) (o : Option Ex) → or_pending (init_of ns t o) ≡ init_of ns t o
settled-init ns t None = refl
settled-init ns t (Some e) = settled-first (fold_at0 ns e) (const_array ns (elem_of t) e)

none_named : (b : Bool) → not b ≡ true → b ≡ false
none_named true h = sym h
none_named false h = refl

all_named : (b : Bool) → not b ≡ false → b ≡ true
all_named true h = refl
all_named false h = sym h

plain-is : (ns : Names) (o : Option Ex) (t : Ty) (xs : List Bytes) → none_of (laid_names xs) ≡ true → var_value ns (record { ty = t; init = o; names = xs }) ≡ plain_init ns o
plain-is ns o t xs h = rw h

module _ (s : Bytes) {t : Bytes} (r : ℕ) (ns : Names) {b : Bool} (h : b ≡ not (none_of (laid_names (names_on s r)))) {x : P.Result (Option First) NoItem} {u : Bytes} where
  pub value-named : b ≡ true → Inits t (init_of ns (var_on s r).ty (var_on s r).init) x u → Inits t (or_pending (var_value ns (var_on s r))) x u
  value-named e a = record { result = a.result ∙ sym (rw (none_named (none_of (laid_names (names_on s r))) (sym h ∙ e)) (settled-init ns (var_on s r).ty (var_on s r).init)); stands = a.stands; keeps = a.keeps }

  pub value-plain : b ≡ false → Inits t (or_pending (plain_init ns (var_on s r).init)) x u → Inits t (or_pending (var_value ns (var_on s r))) x u
  value-plain e a = record { result = a.result ∙ ap or_pending (sym (plain-is ns (var_on s r).init (var_on s r).ty (names_on s r) (all_named (none_of (laid_names (names_on s r))) (sym h ∙ e)))); stands = a.stands; keeps = a.keeps }
