-- The items of a line's names, one after the other.
use mathlib.Core.Path.{◌≡◌, refl, sym, ap, ◌∙◌}
use mathlib.Core.Bool.{Bool, true, false, not, cond}
use mathlib.Core.List.{List, [], ◌∷◌, ◌++◌, append_assoc, append-nil}
use Rattle.std.specs.Prelude.{Option, None, Some}
use Rattle.std.specs.Option.{unwrap_or}
use Prim.Native.Nat.{ℕ, ◌+◌, ◌≤◌, ◌<◌}
use native.Mathlib.Omega.{arith}
use lib.ListN.{length}
use Rattle.semantics.specs.Text.{Bytes, bytes, or_else, same}
use Rattle.semantics.specs.Tree.{Ty}
use Rattle.semantics.specs.Sheet.{concat_map}
use Rattle.semantics.specs.Global.{Item, Init, Global, place_of, laid_names, init_items}
use Rattle.write.specs.declared.Writer.{Writer}
use Rattle.placements.specs.Placements.{Keeps}
use Rattle.literals.proofs.Names.{kept_low}
use Rattle.global_table.specs.Table.{VarLine, places_in, offset_in, type_on, name_on, names_on}
use Rattle.checks.specs.Checks.{Outside}
use Rattle.checks.proofs.Kept.{outside-all, outside-then}
use Rattle.type_keys.proofs.Table.{kinds_kept}
use Rattle.vars.specs.declared.First.{First}
use Rattle.vars.specs.First.{first_in}
use Rattle.vars.proofs.Names.{names_from, names-step, names-over, names-all}
use Rattle.data_rows.specs.declared.Counts.{Counts}
use Rattle.data_rows.specs.Data.{PrintKept, ItemsPrinted, PrintTables, NameTask, name_items}
use Rattle.data_rows.proofs.Kept.{keeping-first, keeping-outside, tabled-still, places-still, logged-still, first-still}
use Rattle.data_rows.proofs.Printed.{printed-as, printed-none, printed-then}

-- ---- tables stay

module _ {s t u : Bytes} {c : Counts} where
  -- while items are printed
  pub held-printed : {xs : List Item} {m n : ℕ} {v w : Writer} → PrintTables s t c m → PrintKept t u → ItemsPrinted s xs m n t u v w → PrintTables s u c n
  held-printed {xs} h k l = record {
    log = logged-still k h.log;
    places = tabled-still k h.places;
    framed = h.framed;
    few = h.few;
    printed = h.printed ++ xs;
    kinds = l.kinds h.printed h.kinds;
  }

  -- and while a first value is worked out
  pub held_first : {keys : ℕ} → PrintTables s t c keys → Keeps 16384 49152 t u → PrintTables s u c keys
  held_first h k = record {
    log = logged-still (keeping-first k) h.log;
    places = tabled-still (keeping-first k) h.places;
    framed = h.framed;
    few = h.few;
    printed = h.printed;
    kinds = kinds_kept (kept_low k 10629 (omega arith)) h.kinds;
  }

  pub task-next : {x : First} {xs : List Item} {m n : ℕ} {v w : Writer} → NameTask s t c x m → Outside 10624 10629 t u → ItemsPrinted s xs m n t u v w → NameTask s u c x n
  task-next {x} k o l = record {
    held = held-printed k.held (keeping-outside o) l;
    stands = (first-still o x k.stands).1;
  }

-- ---- one name

or-zero : (o : Option ℕ) → unwrap_or o 0 ≡ or_else 0 o
or-zero None = refl
or-zero (Some i) = refl

module _ (ty : Ty) (ps : List Global) (i : Init) (x : Bytes) {b : Bool} (h : b ≡ same x (bytes "nil")) where
  pub name-nil : b ≡ true → [] ≡ name_items ty ps i (x ∷ [])
  name-nil d = rw (sym h ∙ d)

  pub name-items : b ≡ false → {o : Option ℕ} → o ≡ place_of x ps → {off : ℕ} → off ≡ unwrap_or o 0 → init_items off ty i ≡ name_items ty ps i (x ∷ [])
  name-items d {o} e g =
      ap (λ (j : ℕ). init_items j ty i) (g ∙ or-zero o ∙ ap (or_else 0) e)
      ∙ sym (append-nil (init_items (offset_in x ps) ty i)) ∙ rw (sym h ∙ d)

items-step : (ty : Ty) (ps : List Global) (i : Init) (x : Bytes) (xs : List Bytes) → name_items ty ps i (x ∷ xs) ≡ name_items ty ps i (x ∷ []) ++ name_items ty ps i xs
items-step ty ps i x xs = go (same x (bytes "nil"))
  where
    go : (b : Bool) → concat_map (λ (n : Bytes). init_items (offset_in n ps) ty i) (cond (not b) (x ∷ laid_names xs) (laid_names xs))
        ≡ concat_map (λ (n : Bytes). init_items (offset_in n ps) ty i) (cond (not b) (x ∷ []) []) ++ name_items ty ps i xs
    go true = refl
    go false = rw (append-nil (init_items (offset_in x ps) ty i))

-- ---- all names

-- those of the first j are printed
pub record NamesPrinted (s t : Bytes) (c : Counts) (r : ℕ) (x : First) (count m : ℕ) (v : Writer) (u : Bytes) (n : ℕ) (w : Writer) (j : ℕ) : Type 0 where
  pub task : NameTask s u c x n
  pub line : VarLine s r
  pub outside : Outside 10624 10629 t u
  pub places : places_in s u c.globals ≡ places_in s t c.globals
  pub value : first_in u x ≡ first_in t x
  pub done : List Item
  pub printed : ItemsPrinted s done m n t u v w
  pub rest : done ++ name_items (type_on s r) (places_in s t c.globals) (first_in t x) (names_from s r count j) ≡ name_items (type_on s r) (places_in s t c.globals) (first_in t x) (names_on s r)

module _ {s t : Bytes} {c : Counts} {r : ℕ} {x : First} {m : ℕ} (k : NameTask s t c x m) (l : VarLine s r) {count : ℕ} (hc : count ≡ length (names_on s r)) {v : Writer} where
  pub names-printed-start : NamesPrinted s t c r x count m v t m v 0
  names-printed-start = record {
    task = k;
    line = l;
    outside = outside-all;
    places = refl;
    value = refl;
    done = [];
    printed = printed-none;
    rest = ap (name_items (type_on s r) (places_in s t c.globals) (first_in t x)) (names-all s r hc);
  }

module _ {s t : Bytes} {c : Counts} {r : ℕ} {x : First} {count m : ℕ} {v : Writer} {u : Bytes} {n : ℕ} {w : Writer} {j : ℕ} (p : NamesPrinted s t c r x count m v u n w j) where
  pub names-printed-next : {o : ℕ} {z : Bytes} {y : Writer} → j < count → {b : Bytes} → b ≡ name_on s r j
      → ItemsPrinted s (name_items (type_on s r) (places_in s u c.globals) (first_in u x) (b ∷ [])) n o u z w y × Outside 10624 10629 u z → NamesPrinted s t c r x count m v z o y (j + 1)
  names-printed-next h {b} i a =
      let f = name_items (type_on s r) (places_in s t c.globals) (first_in t x) in
      let is : name_items (type_on s r) (places_in s u c.globals) (first_in u x) (b ∷ []) ≡ f (name_on s r j ∷ []) = rw (p.places, p.value, i) in
      record {
        task = task-next p.task a.1 a.0;
        line = p.line;
        outside = outside-then p.outside a.1;
        places = places-still (keeping-outside a.1) s p.task.held.places ∙ p.places;
        value = (first-still a.1 x p.task.stands).0 ∙ p.value;
        done = p.done ++ f (name_on s r j ∷ []);
        printed = printed-then p.done (f (name_on s r j ∷ [])) p.printed (printed-as is a.0);
        rest = append_assoc p.done (f (name_on s r j ∷ [])) (f (names_from s r count (j + 1)))
            ∙ ap (λ (is : List Item). p.done ++ is) (sym (ap f (names-step s r count j h) ∙ items-step (type_on s r) (places_in s t c.globals) (first_in t x) (name_on s r j) (names_from s r count (j + 1)))) ∙ p.rest;
      }

  pub names-printed-end : count ≤ j → ItemsPrinted s (name_items (type_on s r) (places_in s t c.globals) (first_in t x) (names_on s r)) m n t u v w × Outside 10624 10629 t u
  names-printed-end h =
      let f = name_items (type_on s r) (places_in s t c.globals) (first_in t x) in
      (printed-as (sym (append-nil p.done) ∙ ap (λ (xs : List Bytes). p.done ++ f xs) (sym (names-over s r count j h)) ∙ p.rest) p.printed, p.outside)
