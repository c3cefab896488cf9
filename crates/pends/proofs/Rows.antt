-- The `pend` rows of a line.
use mathlib.Core.Path.{◌≡◌, refl, sym, ap, ◌∙◌}
use mathlib.Core.Bool.{Bool, true, false, not, cond}
use mathlib.Core.List.{List, [], ◌∷◌, ◌++◌, append_assoc, append-nil}
use Rattle.std.specs.Prelude.{Option, None, Some}
use Prim.Native.Nat.{ℕ, suc, ◌+◌, ◌-◌, ◌≤◌, ◌<◌}
use lib.ListN.{length}
use Rattle.semantics.specs.Text.{Bytes, bytes, same}
use Rattle.semantics.specs.Tree.{VarDecl}
use Rattle.semantics.specs.Sheet.{concat_map}
use Rattle.semantics.specs.Fold.{Result, Names}
use Rattle.std.specs.Prelude as P
use Rattle.std.specs.Prelude.{Ok, Err}
use Rattle.semantics.specs.Fold.Result.{ok, failed, refuse}
use Rattle.semantics.specs.Const.{Refusal}
use Rattle.semantics.specs.Global.{Init, init_of, laid_names, none_of, var_value, refused_by, vars_refused, pend_of}
use Rattle.semantics.specs.Global.Init.{no_init, const_init, array_init, pending_init}
use Rattle.semantics.specs.Listing.{pend_row}
use Rattle.write.specs.declared.Writer.{Writer}
use Rattle.write.specs.Writes.{Writes}
use Rattle.write.proofs.Writes.{writes_none, writes_then, writes_as}
use Rattle.semantics.proofs.Common.{never}
use Rattle.global_table.specs.Table.{var_on, name_on, names_on}
use Rattle.globals.specs.Vars.{laid_on, var_pends, first_init}
use Rattle.values.specs.Values.{value_in}
use Rattle.arrays.specs.declared.NoItem.{NoItem}
use Rattle.arrays.specs.Arrays.{array_in}
use Rattle.vars.specs.declared.First.{First}
use Rattle.vars.specs.First.{init_in, Inits, or_pending}
use Rattle.pends.specs.Pends.{refused_as, Pended}
use Rattle.vars.proofs.Values.{settled-init}
use Rattle.vars.proofs.Names.{names_from, names-step, names-over, names-all}

-- ---- names

abbrev pub pend_rows_of : List Bytes → Bytes
pend_rows_of xs = concat_map pend_row (laid_names xs)

module _ (x : Bytes) {b : Bool} (h : b ≡ same x (bytes "nil")) where
  pub name-nil : b ≡ true → [] ≡ pend_rows_of (x ∷ [])
  name-nil d = sym (rw (sym h ∙ d))

  pub name-row : b ≡ false → pend_row x ≡ pend_rows_of (x ∷ [])
  name-row d = sym (append-nil (pend_row x)) ∙ sym (rw (sym h ∙ d))

rows_step : (x : Bytes) (xs : List Bytes) → pend_rows_of (x ∷ xs) ≡ pend_rows_of (x ∷ []) ++ pend_rows_of xs
rows_step x xs = go (same x (bytes "nil"))
  where
    go : (b : Bool) → concat_map pend_row (cond (not b) (x ∷ laid_names xs) (laid_names xs)) ≡ concat_map pend_row (cond (not b) (x ∷ []) []) ++ pend_rows_of xs
    go true = refl
    go false = rw (append-nil (pend_row x))

-- those of the first j names are written
pub record PendRowsWritten (s : Bytes) (r count : ℕ) (v : Writer) (j : ℕ) (w : Writer) : Type 0 where
  pub text : Bytes
  pub wrote : Writes v text w
  pub rest : text ++ pend_rows_of (names_from s r count j) ≡ pend_rows_of (names_on s r)

pub pend-rows-start : (s : Bytes) (r : ℕ) {count : ℕ} → count ≡ length (names_on s r) → (w : Writer) → w.at ≤ length w.out.now + 1 → PendRowsWritten s r count w 0 w
pend-rows-start s r hc w h = record { text = []; wrote = writes_none w h; rest = ap pend_rows_of (names-all s r hc) }

module _ {s : Bytes} {r count : ℕ} {v : Writer} {j : ℕ} {w : Writer} (m : PendRowsWritten s r count v j w) where
  pub pend-rows-next : j < count → {x : Bytes} → x ≡ name_on s r j → {z : Writer} → Writes w (pend_rows_of (x ∷ [])) z → PendRowsWritten s r count v (j + 1) z
  pend-rows-next h i k = record {
    text = m.text ++ pend_rows_of (name_on s r j ∷ []);
    wrote = writes_then m.wrote (writes_as (ap (λ (x : Bytes). pend_rows_of (x ∷ [])) i) k);
    rest = append_assoc m.text (pend_rows_of (name_on s r j ∷ [])) (pend_rows_of (names_from s r count (j + 1)))
        ∙ ap (λ (x : Bytes). m.text ++ x) (sym (ap pend_rows_of (names-step s r count j h) ∙ rows_step (name_on s r j) (names_from s r count (j + 1)))) ∙ m.rest;
  }

  pub pend-rows-end : count ≤ j → Writes v (pend_rows_of (names_on s r)) w
  pend-rows-end h = writes_as (sym (append-nil m.text) ∙ ap (λ (xs : List Bytes). m.text ++ pend_rows_of xs) (sym (names-over s r count j h)) ∙ m.rest) m.wrote

-- ---- a line by its value

refused-settled : (k : ℕ) (x : Result Init) (o : Option Refusal) → refused_by k (or_pending x) o ≡ refused_by k x o
refused-settled k (ok i) o = refl
refused-settled k failed o = refl
refused-settled k (refuse r) o = refl

module _ (ns : Names) (v : VarDecl) where
  first-is : {i : Init} → none_of (laid_names v.names) ≡ false → or_pending (var_value ns v) ≡ ok i → first_init ns v ≡ i
  first-is {i} h e = let q : init_of ns v.ty v.init ≡ ok i = sym (settled-init ns v.ty v.init) ∙ (rw h at e) in rw q

  -- what each name leaves, by the value
  pub by_first : {A : Type 0} (f : Bytes → Init → List A) {i : Init} → or_pending (var_value ns v) ≡ ok i → concat_map (λ (x : Bytes). f x (first_init ns v)) (laid_names v.names) ≡ concat_map (λ (x : Bytes). f x i) (laid_names v.names)
  by_first {A} f {i} e = go (laid_names v.names) (λ h. first-is h e)
    where
      go : (xs : List Bytes) → (none_of xs ≡ false → first_init ns v ≡ i) → concat_map (λ (x : Bytes). f x (first_init ns v)) xs ≡ concat_map (λ (x : Bytes). f x i) xs
      go [] h = refl
      go (x ∷ xs) h = ap (λ (j : Init). concat_map (λ (y : Bytes). f y j) (x ∷ xs)) (h refl)

  pends-are : {i : Init} → or_pending (var_value ns v) ≡ ok i → var_pends ns v ≡ concat_map (λ (x : Bytes). pend_of x i) (laid_names v.names)
  pends-are e = by_first pend_of e

no-pends : (i : Init) → ((x : Bytes) → pend_of x i ≡ []) → (xs : List Bytes) → concat_map (λ (x : Bytes). pend_of x i) xs ≡ []
no-pends i h [] = refl
no-pends i h (x ∷ xs) = rw (h x, no-pends i h xs)

all-pend : (xs : List Bytes) → concat_map (λ (x : Bytes). pend_of x pending_init) xs ≡ xs
all-pend [] = refl
all-pend (x ∷ xs) = rw (all-pend xs)

-- only a pending value is not refused
pending-alone : (e : NoItem) (k : ℕ) → None ≡ refused_as e k → e ≡ NoItem.Pending
pending-alone NoItem.Pending k h = refl
pending-alone NoItem.LongString k h = never cc
pending-alone NoItem.LongAlloc k h = never cc
pending-alone NoItem.NegativeAlloc k h = never cc
pending-alone NoItem.OutsideLiteral k h = never cc
pending-alone NoItem.LongLiteral k h = never cc

module _ (s : Bytes) (r : ℕ) (ns : Names) {x : P.Result (Option First) NoItem} {t u : Bytes} (a : Inits t (or_pending (var_value ns (var_on s r))) x u) where
  -- by what the line gives
  refused_is : {y : P.Result (Option First) NoItem} → x ≡ y → vars_refused ns (laid_on s (Some r)) ≡ refused_by (suc (r - 1)) (init_in u y) None
  refused_is e = sym (refused-settled (suc (r - 1)) (var_value ns (var_on s r)) None) ∙ ap (λ (z : Result Init). refused_by (suc (r - 1)) z None) (sym a.result ∙ ap (init_in u) e)

  written : {y : P.Result (Option First) NoItem} (i : Init) → x ≡ y → init_in u y ≡ ok i → {v w : Writer} → Writes v (concat_map pend_row (concat_map (λ (z : Bytes). pend_of z i) (laid_names (names_on s r)))) w → Pended ns (laid_on s (Some r)) v (Ok tt) w
  written i e k p = (
    refused_is e ∙ ap (λ (z : Result Init). refused_by (suc (r - 1)) z None) k,
    writes_as (ap (concat_map pend_row) (sym (append-nil (var_pends ns (var_on s r)) ∙ pends-are ns (var_on s r) (sym a.result ∙ ap (init_in u) e ∙ k)))) p,
  )

  -- a value that is neither pending nor refused has no row
  pub line-quiet : {o : Option First} → x ≡ Ok o → {v w : Writer} → Writes v [] w → Pended ns (laid_on s (Some r)) v (Ok tt) w
  line-quiet {o} e {v} {w} p = go o e
    where
      none : (i : Init) → ((y : Bytes) → pend_of y i ≡ []) → {y : P.Result (Option First) NoItem} → x ≡ y → init_in u y ≡ ok i → Pended ns (laid_on s (Some r)) v (Ok tt) w
      none i q d k = written i d k (writes_as (sym (rw (no-pends i q (laid_names (names_on s r))))) p)

      go : (o : Option First) → x ≡ Ok o → Pended ns (laid_on s (Some r)) v (Ok tt) w
      go None d = none no_init (λ z. refl) d refl
      go (Some (First.Value y)) d = none (const_init (value_in u y)) (λ z. refl) d refl
      go (Some (First.Array y)) d = none (array_init (array_in u y)) (λ z. refl) d refl

  pub line-pending : {e : NoItem} → x ≡ Err e → None ≡ refused_as e r → {v w : Writer} → Writes v (pend_rows_of (names_on s r)) w → Pended ns (laid_on s (Some r)) v (Ok tt) w
  line-pending {e} d k p = written pending_init (d ∙ ap Err (pending-alone e r k)) refl (writes_as (sym (ap (concat_map pend_row) (all-pend (laid_names (names_on s r))))) p)
