-- The items of lines, one after the other.
use mathlib.Core.Path.{◌≡◌, refl, sym, ap, ◌∙◌, subst}
use mathlib.Core.List.{List, [], ◌∷◌, ◌++◌, append-nil}
use Rattle.std.specs.Prelude as P
use Rattle.std.specs.Prelude.{Option, None, Some, Ok, Err, ◌⊎◌}
use mathlib.Core.Logic.{inl, inr}
use Prim.Native.Nat.{ℕ, ◌+◌, ◌≤◌, ◌<◌}
use native.Mathlib.Numerals.{add-one}
use native.Mathlib.Omega.{arith}
use Rattle.semantics.specs.Text.{Bytes}
use Rattle.semantics.specs.Tree.{Ty, VarDecl}
use Rattle.semantics.specs.Sheet.{Located, concat_map, sheet_source}
use Rattle.semantics.specs.Fold.{Result, Names}
use Rattle.semantics.specs.Global.{Item, Init, Global, init_of, or_no_init, init_items, laid_names}
use Rattle.semantics.specs.Types.{id_of}
use Rattle.semantics.specs.Listing.{item_row}
use Rattle.laws.proofs.Lists.{concat-append}
use Rattle.write.specs.declared.Writer.{Writer}
use Rattle.write.specs.Writes.{Writes}
use Rattle.lines.specs.Lines.{lines_in}
use Rattle.checks.specs.Checks.{Kept, Outside}
use Rattle.source.specs.Walk.{open_at}
use Rattle.implement.specs.Modules.{module_at, Open}
use Rattle.names.specs.Table.{log_in, names_in}
use Rattle.placements.specs.Placements.{Keeps}
use Rattle.literals.proofs.Names.{kept_low}
use Rattle.arrays.specs.declared.NoItem.{NoItem}
use Rattle.arrays.specs.declared.NoItem.TheVariants as N
use Rattle.global_table.specs.Table.{var_on, places_in, offset_in, type_on, names_on}
use Rattle.globals.specs.Vars.{laid_at, laid_on, laid_vars_to, var_items, line_items}
use Rattle.items.specs.Items.{item_rows}
use Rattle.type_keys.specs.Table.{Kinds}
use Rattle.type_keys.proofs.Table.{kinds_kept}
use Rattle.vars.specs.declared.First.{First}
use Rattle.vars.specs.First.{first_in, init_in, Inits}
use Rattle.vars.proofs.Items.{items-all}
use Rattle.data_rows.specs.declared.Counts.{Counts}
use Rattle.data_rows.specs.Data.{items_in, keys_of, rows_of, DataTables, PrintKept, ItemsPrinted, PrintTables, NameTask, name_items}
use Rattle.data_rows.proofs.Kept.{keeping_all, keeping-then, keeping-first, keeping-outside, places-still, log-still}
use Rattle.data_rows.proofs.Keys.{kinds-few}
use Rattle.data_rows.proofs.Printed.{printed-as, printed-none, printed-then}
use Rattle.data_rows.proofs.Names.{held-printed, held_first}

-- ---- the items of a `var` line

var-items : (s : Bytes) (r : ℕ) (ns : Names) (ps : List Global) → var_items ns ps (var_on s r) ≡ line_items ns ps (laid_on s (Some r))
var-items s r ns ps = sym (append-nil (var_items ns ps (var_on s r)))

-- what is printed leaves the keys of elements as they were while a first value was worked out
printed-first : {s : Bytes} {xs : List Item} {m n : ℕ} {t u z : Bytes} {v w : Writer} → Keeps 16384 49152 t u → ItemsPrinted s xs m n u z v w → ItemsPrinted s xs m n t z v w
printed-first k p = let l = kept_low k 10629 (omega arith) in record { rows = λ bs cs y. p.rows bs cs (kinds_kept l y); kinds = λ bs y. p.kinds bs (kinds_kept l y) }

no-items : (ty : Ty) (off : ℕ) (t : Bytes) {y : P.Result (Option First) NoItem} → (y ≡ Ok None) ⊎ ((e : NoItem) × (y ≡ Err e)) → [] ≡ init_items off ty (or_no_init (init_in t y))
no-items ty off t (inl e) = rw e
no-items ty off t (inr (k, e)) = rw e (go k)
  where
    go : (k : NoItem) → [] ≡ init_items off ty (or_no_init (init_in t (Err k)))
    go N.Pending = refl
    go N.LongString = refl
    go N.LongAlloc = refl
    go N.NegativeAlloc = refl
    go N.OutsideLiteral = refl
    go N.LongLiteral = refl

none-each : {A B : Type 0} (f : A → List B) → ((x : A) → [] ≡ f x) → (xs : List A) → [] ≡ concat_map f xs
none-each f h [] = refl
none-each f h (x ∷ xs) = rw (← h x) (none-each f h xs)

module _ {s t u : Bytes} {c : Counts} (r : ℕ) {keys : ℕ} (h : PrintTables s t c keys) where
  module _ {x : First} (a : Inits t (init_of (names_in s t c.consts) (var_on s r).ty (var_on s r).init) (Ok (Some x)) u) where
    pub line-task : NameTask s u c x keys
    line-task = record { held = held_first h a.keeps; stands = a.stands }

    pub line-items : {n : ℕ} {z : Bytes} {v w : Writer} → ItemsPrinted s (name_items (type_on s r) (places_in s u c.globals) (first_in u x) (names_on s r)) keys n u z v w × Outside 10624 10629 u z
        → ItemsPrinted s (line_items (names_in s t c.consts) (places_in s t c.globals) (laid_on s (Some r))) keys n t z v w × PrintKept t z
    line-items b =
        let i : name_items (type_on s r) (places_in s u c.globals) (first_in u x) (names_on s r) ≡ var_items (names_in s t c.consts) (places_in s t c.globals) (var_on s r) =
        ap (λ (ps : List Global). name_items (type_on s r) ps (first_in u x) (names_on s r)) (places-still (keeping-first a.keeps) s h.places)
        ∙ ap (λ (y : Result Init). name_items (type_on s r) (places_in s t c.globals) (or_no_init y) (names_on s r)) a.result in
        let p = printed-as (i ∙ var-items s r (names_in s t c.consts) (places_in s t c.globals)) b.0 in
        (printed-first a.keeps p, keeping-then (keeping-first a.keeps) (keeping-outside b.1))

  -- a line without a first value has no items
  pub line-none : {y : P.Result (Option First) NoItem} → Inits t (init_of (names_in s t c.consts) (var_on s r).ty (var_on s r).init) y u → (y ≡ Ok None) ⊎ ((e : NoItem) × (y ≡ Err e)) → {v : Writer}
      → ItemsPrinted s (line_items (names_in s t c.consts) (places_in s t c.globals) (laid_on s (Some r))) keys keys t u v v × PrintKept t u
  line-none {y} a e =
      let f = λ (i : Result Init). name_items (type_on s r) (places_in s t c.globals) (or_no_init i) (names_on s r) in
      let i : [] ≡ line_items (names_in s t c.consts) (places_in s t c.globals) (laid_on s (Some r)) =
      none-each (λ (n : Bytes). init_items (offset_in n (places_in s t c.globals)) (type_on s r) (or_no_init (init_in u y))) (λ n. no-items (type_on s r) (offset_in n (places_in s t c.globals)) u e) (laid_names (names_on s r))
      ∙ ap f a.result ∙ var-items s r (names_in s t c.consts) (places_in s t c.globals) in
      (printed-first a.keeps (printed-as i printed-none), keeping-first a.keeps)

pub none-laid : (s : Bytes) (ns : Names) (ps : List Global) {r : Option ℕ} → r ≡ None → {m : ℕ} {t : Bytes} {v : Writer} → ItemsPrinted s (line_items ns ps (laid_on s r)) m m t t v v × PrintKept t t
none-laid s ns ps z = (printed-as (ap (λ (j : Option ℕ). line_items ns ps (laid_on s j)) (sym z)) printed-none, keeping_all)

-- ---- all lines

-- the items of the first i lines are printed
pub record Walking (s t : Bytes) (c : Counts) (m : ℕ) (v : Writer) (u : Bytes) (n : ℕ) (w : Writer) (k : Option ℕ) (i : ℕ) : Type 0 where
  pub here : Open s i k
  pub held : PrintTables s u c n
  pub keeping : PrintKept t u
  pub names : log_in s u c.consts ≡ log_in s t c.consts
  pub places : places_in s u c.globals ≡ places_in s t c.globals
  pub printed : ItemsPrinted s (line_items (names_in s t c.consts) (places_in s t c.globals) (laid_vars_to s i)) m n t u v w

module _ {s t : Bytes} {c : Counts} {m : ℕ} (r : DataTables s t c m) where
  needs-kinds : Kinds t (keys_of s []) m
  needs-kinds = rw (append-nil (sheet_source s).needs) r.kinds

  pub walk_start : {v : Writer} → Walking s t c m v t m v None 0
  unfolding laid_vars_to open_at module_at
  walk_start = record {
    here = record { checked = r.table.checked; within = omega arith; low = omega arith; here = refl };
    held = record { log = r.table.logged; places = r.places; framed = r.framed; few = r.few; printed = []; kinds = needs-kinds };
    keeping = keeping_all;
    names = refl;
    places = refl;
    printed = printed-none;
  }

  module _ {v : Writer} {u : Bytes} {n : ℕ} {w : Writer} {k : Option ℕ} {i : ℕ} (p : Walking s t c m v u n w k i) where
    module _ (l : Option ℕ) (y : laid_on s l ≡ laid_at s i) {z : Bytes} {o : ℕ} {x : Writer} (a : ItemsPrinted s (line_items (names_in s u c.consts) (places_in s u c.globals) (laid_on s l)) n o u z w x × PrintKept u z) where
      pub walk-next : {k' : Option ℕ} → Open s (i + 1) k' → Walking s t c m v z o x k' (i + 1)
      unfolding laid_vars_to
      walk-next q =
          let ns = names_in s t c.consts in
          let ps = places_in s t c.globals in
          let e : line_items (names_in s u c.consts) (places_in s u c.globals) (laid_on s l) ≡ line_items ns ps (laid_at s i) = rw (p.names, p.places, y) in
          let f : line_items ns ps (laid_vars_to s i) ++ line_items ns ps (laid_at s i) ≡ line_items ns ps (laid_vars_to s (i + 1)) = rw add-one (sym (concat-append (λ (j : Located VarDecl). var_items ns ps j.it) (laid_vars_to s i) (laid_at s i))) in
          record {
            here = q;
            held = held-printed p.held a.1 a.0;
            keeping = keeping-then p.keeping a.1;
            names = log-still a.1 p.held.log ∙ p.names;
            places = places-still a.1 s p.held.places ∙ p.places;
            printed = printed-as f (printed-then (line_items ns ps (laid_vars_to s i)) (line_items ns ps (laid_at s i)) p.printed (printed-as e a.0));
          }

    pub walk_end : lines_in s ≤ i → Writes v (rows_of s (items_in s t c.consts)) w × Kinds u (keys_of s (items_in s t c.consts)) n × (n < 1024) × Kept 10624 t u
    unfolding item_rows
    walk_end h =
        let ns = names_in s t c.consts in
        let is = items_in s t c.consts in
        let z : i ≡ lines_in s = omega (arith, p.here.within) in
        let y : line_items ns (places_in s t c.globals) (laid_vars_to s i) ≡ is =
        ap (λ (j : ℕ). line_items ns (places_in s t c.globals) (laid_vars_to s j)) z ∙ ap (λ (ps : List Global). line_items ns ps (laid_vars_to s (lines_in s))) (r.laid ns) ∙ items-all ns s r.table.checked in
        let a : ItemsPrinted s is m n t u v w = printed-as y p.printed in
        let x = a.kinds [] needs-kinds in
        (subst (λ (js : List Item). Writes v (concat_map (item_row (id_of (sheet_source s) js)) is) w) (append-nil is) (a.rows [] [] needs-kinds), x, omega (arith, kinds-few x), p.keeping.below)
