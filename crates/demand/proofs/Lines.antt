-- The globals are the names of the `var` lines that count, and each one's first value is that of its own line, where no line is refused.
use Prim.Native.Nat.{ℕ, suc}
use mathlib.Core.Path.{◌≡◌, refl, ap}
use mathlib.Core.Bool.{Bool, true, false, cond}
use mathlib.Core.List.{List, [], ◌∷◌, map, map-append}
use Rattle.std.specs.Prelude.{Option, None, Some}
use lib.ListN.{length}
use lib.Dec.{ltb, eqb}
use Rattle.semantics.specs.Text.{Bytes, line_parts}
use Rattle.semantics.specs.Tree.{Ty, Ex, VarDecl, ConstVal, elem_of}
use Rattle.semantics.specs.Sheet.{Located, reads_of, nodes_from, sheet_source, concat_map}
use Rattle.semantics.specs.Fold.{Result, Names, fold_at0}
use Rattle.semantics.specs.Fold.Result.{ok, failed, refuse}
use Rattle.semantics.specs.Const.{Refusal, constants, names_of}
use Rattle.semantics.specs.Array.{ConstArray, const_array}
use Rattle.semantics.specs.Global.{Init, Declared, first_value, init_of, or_no_init, declared_by, laid_vars, laid_names, none_of, var_value, refused_by, vars_refused}
use Rattle.semantics.specs.Global.Init.{no_init, const_init, array_init, pending_init}
use Rattle.semantics.specs.Refusal.{Outcome, bad_form, bad_ref_from, too_deep_from, bad_module_from, too_many_from, no_counts, refuse_at, listed_in, or_refused, refuse_work, checked, longest_sheet, least_work, work_refused, source_listing, worked, compiled}
use Rattle.semantics.specs.Refusal.Outcome.{listed, refused}
use Rattle.semantics.specs.Demand.{In, DeclaredAt, AllDeclared, source_declared}
use Rattle.semantics.proofs.Common.{never}
use Rattle.laws.specs.Every.{Every}
use Rattle.laws.proofs.Every.{every_append, every_map}

later : {A : Type 0} {x y : A} {xs : List A} → In x xs → In x (y ∷ xs)
later i = record { index = suc i.index; there = i.there }

every-name : (P : Declared → Type 0) (d : Bytes → Declared) (ns : List Bytes) → ((n : Bytes) → In n ns → P (d n)) → Every P (map d ns)
every-name P d [] h = tt
every-name P d (n ∷ ns) h = (h n (record { index = 0; there = refl }), every-name P d ns (λ m i. h m (later i)))

-- the global of a name of a line
abbrev named_on : Names → VarDecl → Bytes → Declared
named_on ns d n = record { name = n; ty = d.ty; first = or_no_init (init_of ns d.ty d.init) }

pub every-declared : (P : Declared → Type 0) (ns : Names) (v : Located VarDecl) → ((n : Bytes) → In n (laid_names v.it.names) → P (named_on ns v.it n)) → Every P (declared_by ns v)
every-declared P ns v h = every-name P (named_on ns v.it) (laid_names v.it.names) h

-- ---- a sheet that is listed has no refused line

some-none : {A B : Type 0} {x : A} → Some x ≡ None → B
some-none h = never cc

module _ (out : Bytes) where
  never-listed : {A : Type 0} (n k : ℕ) → refused n k ≡ listed out → A
  never-listed n k h = never cc

  unless : (t : Bool) (n k : ℕ) (x : Outcome) → cond t (refused n k) x ≡ listed out → x ≡ listed out
  unless true n k x h = never-listed n k h
  unless false n k x h = h

  no_line : (n k : ℕ) (x : Outcome) → refuse_at n k x ≡ listed out → x ≡ listed out
  no_line n k x h = go (eqb k 0) h
    where
      go : (t : Bool) → cond t x (refused n k) ≡ listed out → x ≡ listed out
      go true h = h
      go false h = never-listed n k h

  checks-done : (ls : List Bytes) (x : Outcome) → checked ls x ≡ listed out → x ≡ listed out
  checks-done ls x h =
      let rs = reads_of ls in
      let a = bad_form 1 ls in
      let b = bad_ref_from rs 1 [] rs in
      let c = too_deep_from 1 [] rs in
      let d = bad_module_from 1 false rs in
      let e = too_many_from 1 no_counts (nodes_from [] rs) in
      no_line 7 e _ (no_line 6 d _ (no_line 5 c _ (no_line 4 b _ (no_line 3 a _ h))))

  work-done : (o : Option Refusal) (x : Outcome) → refuse_work o x ≡ listed out → o ≡ None
  work-done None x h = refl
  work-done (Some r) x h = never-listed r.number r.line h

vars-done : (a b : Option Refusal) → or_refused a b ≡ None → b ≡ None
vars-done None b h = h
vars-done (Some r) b h = some-none h

listed-done : (L W : ℕ) (s out : Bytes) → compiled L W s ≡ listed out → vars_refused (names_of (sheet_source s)) (laid_vars (sheet_source s)) ≡ None
unfolding compiled
listed-done L W s out h =
    let src = sheet_source s in
    let w = worked L src in
    let c = checked (line_parts s) w in
    let g = checks-done out (line_parts s) w (unless out (ltb W least_work) 2 0 c (unless out (ltb longest_sheet (length s)) 1 0 _ h)) in
    vars-done (constants src).refused _ (work-done out (work_refused src) (listed_in L (source_listing src)) g)

-- ---- the lines

rest-done : {A : Type 0} (k : ℕ) (r : Result A) (o : Option Refusal) → refused_by k r o ≡ None → o ≡ None
rest-done k (ok a) o h = h
rest-done k failed o h = h
rest-done k (refuse r) o h = some-none h

-- no first value fails
first-there : (k : ℕ) (v : Result ConstVal) (x : Result ConstArray) (o : Option Refusal) → refused_by k (first_value v x) o ≡ None → first_value v x ≡ ok (or_no_init (first_value v x))
first-there k (ok v) x o h = refl
first-there k failed (ok a) o h = refl
first-there k failed failed o h = refl
first-there k failed (refuse r) o h = some-none h
first-there k (refuse r) x o h = some-none h

init-there : (ns : Names) (t : Ty) (i : Option Ex) (k : ℕ) (o : Option Refusal) → refused_by k (init_of ns t i) o ≡ None → init_of ns t i ≡ ok (or_no_init (init_of ns t i))
init-there ns t None k o h = refl
init-there ns t (Some e) k o h = first-there k (fold_at0 ns e) (const_array ns (elem_of t) e) o h

some-name : {n : Bytes} (ns : List Bytes) → In n ns → none_of ns ≡ false
some-name [] i = let h = i.there in never cc
some-name (m ∷ ms) i = refl

pub vars-declared : (ns : Names) (vs : List (Located VarDecl)) → vars_refused ns vs ≡ None → Every (DeclaredAt ns vs) (concat_map (declared_by ns) vs)
vars-declared ns [] h = tt
vars-declared ns (v ∷ vs) h =
    let o = vars_refused ns vs in
    let d = v.it in
    let names = laid_names d.names in
    let here = DeclaredAt ns (v ∷ vs) in
    let rest = concat_map (declared_by ns) vs in
    every_append here (declared_by ns v) rest
    (every-declared here ns v λ n i. record {
      line = v;
      counts = record { index = 0; there = refl };
      named = i;
      same_type = refl;
      value = init-there ns d.ty d.init v.line o (rw (some-name names i) at h);
    })
    (every_map (DeclaredAt ns vs) here
    (λ x p. record { line = p.line; counts = later p.counts; named = p.named; same_type = p.same_type; value = p.value })
    rest (vars-declared ns vs (rest-done v.line (var_value ns d) o h)))

each-declared : (ns : Names) (vs : List (Located VarDecl)) (ds : List Declared) → Every (DeclaredAt ns vs) ds → AllDeclared ns vs ds
each-declared ns vs [] h = tt
each-declared ns vs (d ∷ ds) h = (h.0, each-declared ns vs ds h.1)

pub all-declared : (L W : ℕ) (s out : Bytes) → compiled L W s ≡ listed out → AllDeclared (names_of (sheet_source s)) (laid_vars (sheet_source s)) (source_declared (sheet_source s))
all-declared L W s out h =
    let src = sheet_source s in
    let ns = names_of src in
    each-declared ns (laid_vars src) (source_declared src) (vars-declared ns (laid_vars src) (listed-done L W s out h))

-- ---- their names

names-on : (ns : Names) (d : VarDecl) (xs : List Bytes) → map (λ (x : Declared). x.name) (map (named_on ns d) xs) ≡ xs
names-on ns d [] = refl
names-on ns d (x ∷ xs) = ap (λ (ys : List Bytes). x ∷ ys) (names-on ns d xs)

pub names-declared : (ns : Names) (vs : List (Located VarDecl))
    → map (λ (d : Declared). d.name) (concat_map (declared_by ns) vs) ≡ concat_map (λ (v : Located VarDecl). laid_names v.it.names) vs
names-declared ns [] = refl
names-declared ns (v ∷ vs) = rw (map-append, names-on ns v.it (laid_names v.it.names), names-declared ns vs)

-- ---- values that are no arrays

abbrev constant_in : Result Init → Result ConstVal
constant_in (ok no_init) = failed
constant_in (ok (const_init v)) = ok v
constant_in (ok (array_init a)) = failed
constant_in (ok pending_init) = failed
constant_in failed = failed
constant_in (refuse r) = refuse r

pub value-folded : (ns : Names) (t : Ty) (e : Ex) (v : ConstVal) → init_of ns t (Some e) ≡ ok (const_init v) → fold_at0 ns e ≡ ok v
value-folded ns t e v = go (fold_at0 ns e) (const_array ns (elem_of t) e)
  where
    go : (r : Result ConstVal) (a : Result ConstArray) → first_value r a ≡ ok (const_init v) → r ≡ ok v
    go (ok w) a h = ap constant_in h
    go failed (ok a) h = ap constant_in h
    go failed failed h = ap constant_in h
    go failed (refuse r) h = never cc
    go (refuse r) a h = ap constant_in h
