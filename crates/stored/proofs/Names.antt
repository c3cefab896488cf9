-- The names in a listing hold no separators where those of the declarations hold none.
use Prim.Native.Nat.{ℕ, suc, ◌+◌, ◌≤◌, ◌<◌}
use native.Mathlib.Omega.{arith}
use mathlib.Core.Path.{◌≡◌, refl}
use mathlib.Core.Bool.{Bool, true, false, ◌&&◌, ◌||◌, cond}
use mathlib.Core.List.{List, [], ◌∷◌, ◌++◌, map}
use Rattle.std.specs.Prelude.{Option, None, Some}
use lib.IntN.{pos}
use lib.ListN.{length}
use lib.Dec.{leb, eqb}
use borrow.Author.Tests.{leb-true, eqb-true, lt-ltb}
use Rattle.semantics.specs.Text.{Bytes, bytes, all, any, filter, same, is_none, in_range, is_letter, is_digit, is_name}
use Rattle.semantics.proofs.Common.{never}
use Rattle.laws.proofs.Tests.{and_left, and_right}
use Rattle.semantics.specs.Tree.{Ty, Fd, Case, AdtDecl, ConstDecl, VarDecl, ConstVal, Shape}
use Rattle.semantics.specs.Sheet.{Module, Located, Source, concat_map}
use Rattle.semantics.specs.Layout.{PlacedField, size_of, place_names, place_line, place, behind_tag, variant_fields, variant_shape, Recorded, variants_of, cases_from, records_for, records_of, record_log, last_of, seen, records_by_key, records, recorded_adts}
use Rattle.semantics.specs.Fold.{Result, plain, qualified, Key, Const, Names, same_key, fold}
use Rattle.semantics.specs.Fold.Result.{ok, failed, refuse}
use Rattle.semantics.specs.Const.{Folding, IotaCounter, new_counter, iota_at, iota_next, implements, entries, entered, pass, stands_in, module_passes, top_level, passes_of, passes_from, constants}
use Rattle.semantics.specs.Global.{Init, Declared, Global, Globals, laid_vars, laid_names, declared_by, declared_in, place_of, pend_of, declare_at, globals_from, globals, no_globals}
use Rattle.semantics.specs.Global.Init.{no_init, const_init, array_init, pending_init}
use Rattle.semantics.specs.Listing.{key_text, keys_in}
use Rattle.write.specs.Plain.{is_plain_text}
use Rattle.write.proofs.Uncut.{plain-append}
use Rattle.stored.proofs.Rows.{Plain}
use Rattle.stored.proofs.Others.{PlainRecord, PlainNames}
use Rattle.laws.specs.Every.{Every}
use Rattle.laws.proofs.Every.{every_append, every-filter}

-- ---- a NAME holds no separator

in-range : (lo hi b : ℕ) → 45 ≤ lo → in_range lo hi b ≡ true → 44 < b
in-range lo hi b h e = let l = leb-true lo b (and_left (leb lo b) (leb b hi) e) in omega arith

either : (x y : Bool) {P : Type 0} → x || y ≡ true → (x ≡ true → P) → (y ≡ true → P) → P
either true y e f g = f refl
either false y e f g = g e

letter-high : (b : ℕ) → is_letter b ≡ true → 44 < b
letter-high b e =
    either (in_range 65 90 b || in_range 97 122 b) (eqb b 95) e
    (λ f. either (in_range 65 90 b) (in_range 97 122 b) f (in-range 65 90 b (omega arith)) (in-range 97 122 b (omega arith)))
    (λ f. let q = eqb-true b 95 f in omega arith)

marks-plain : (bs : Bytes) → all (λ (x : ℕ). is_letter x || is_digit x) bs ≡ true → is_plain_text bs ≡ true
unfolding is_plain_text
marks-plain [] h = refl
marks-plain (b ∷ bs) h =
    let t : 44 < b = either (is_letter b) (is_digit b) (and_left (is_letter b || is_digit b) _ h) (letter-high b) (in-range 48 57 b (omega arith)) in
    rw (lt-ltb 44 b t) (marks-plain bs (and_right (is_letter b || is_digit b) _ h))

pub name-plain : (n : Bytes) → is_name n ≡ true → is_plain_text n ≡ true
unfolding is_name is_plain_text
name-plain [] h = never h
name-plain (b ∷ bs) h =
    let f = and_left (is_letter b && all (λ (x : ℕ). is_letter x || is_digit x) bs) (leb (length (b ∷ bs)) 32) h in
    rw (lt-ltb 44 b (letter-high b (and_left (is_letter b) _ f))) (marks-plain bs (and_right (is_letter b) _ f))

-- ---- names of declarations

abbrev pub PlainFields : List Fd → Type 0
PlainFields fs = Every (λ (f : Fd). Plain f.names) fs

abbrev pub PlainPick : Option (List Case) → Type 0
PlainPick None = Unit {0}
PlainPick (Some ks) = Every (λ (k : Case). Plain k.tags × PlainFields k.fields) ks

abbrev pub PlainAdt : AdtDecl → Type 0
PlainAdt a = (is_plain_text a.name ≡ true) × PlainFields a.fields × PlainPick a.pick

abbrev pub PlainWithin : Option Module → Type 0
PlainWithin None = Unit {0}
PlainWithin (Some m) = is_plain_text m.name ≡ true

abbrev pub PlainConst : Located ConstDecl → Type 0
PlainConst c = (is_plain_text c.it.name ≡ true) × PlainWithin c.within

pub record PlainSource (s : Source) : Type 0 where
  pub adts : Every (λ (a : Located AdtDecl). PlainAdt a.it) s.adts
  pub consts : Every PlainConst s.consts
  pub vars : Every (λ (v : Located VarDecl). Plain v.it.names) s.vars

-- ---- records

abbrev NamePlain : PlacedField → Type 0
NamePlain p = is_plain_text p.name ≡ true

names-placed : (t : Ty) (off : ℕ) (ns : List Bytes) → Plain ns → Every NamePlain (place_names t off ns).placed
names-placed t off [] h = tt
names-placed t off (n ∷ ns) h = (h.0, names-placed t (off + size_of t) ns h.1)

line-placed : (t : Option Ty) (ns : List Bytes) (off : ℕ) → Plain ns → Every NamePlain (place_line t ns off).placed
line-placed None ns off h = tt
line-placed (Some t) ns off h = names-placed t _ ns h

fields-placed : (off : ℕ) (fs : List Fd) → PlainFields fs → Every NamePlain (place off fs).placed
fields-placed off [] h = tt
fields-placed off (f ∷ fs) h = every_append NamePlain (place_line f.ty f.names off).placed _ (line-placed f.ty f.names off h.0) (fields-placed (place_line f.ty f.names off).end fs h.1)

variants-plain : (t : Bytes) (s : Shape) (ps : List PlacedField) (g n : ℕ) (xs : List Bytes) → is_plain_text t ≡ true → Every NamePlain ps → Plain xs → Every PlainRecord (variants_of t s ps g n xs)
unfolding is_plain_text
variants-plain t s ps g n [] h p x = tt
variants-plain t s ps g n (y ∷ ys) h p x = ((plain-append t (46 ∷ y) h x.0, p), variants-plain t s ps g (suc n) ys h p x.1)

cases-plain : (t : Bytes) (common : List Fd) (g n : ℕ) (ks : List Case) → is_plain_text t ≡ true → PlainFields common → PlainPick (Some ks) → Every PlainRecord (cases_from t common g n ks)
cases-plain t common g n [] h c p = tt
cases-plain t common g n (k ∷ ks) h c p =
    every_append PlainRecord (variants_of t (variant_shape common k) (variant_fields common k) g n k.tags) _
    (variants-plain t (variant_shape common k) (variant_fields common k) g n k.tags h
    (every_append NamePlain (place behind_tag common).placed _ (fields-placed behind_tag common c) (fields-placed _ k.fields p.0.1)) p.0.0)
    (cases-plain t common (suc g) _ ks h c p.1)

records-plain : (t : Bytes) (fs : List Fd) (o : Option (List Case)) → is_plain_text t ≡ true → PlainFields fs → PlainPick o → Every PlainRecord (records_for t fs o)
records-plain t fs None h f p = ((h, fields-placed 0 fs f), tt)
records-plain t fs (Some ks) h f p = ((h, fields-placed behind_tag fs f), cases-plain t fs 0 0 ks h f p)

log-plain : (ds : List (Located AdtDecl)) → Every (λ (a : Located AdtDecl). PlainAdt a.it) ds → Every PlainRecord (concat_map records_of (map (λ (a : Located AdtDecl). a.it) ds))
log-plain [] h = tt
log-plain (a ∷ ds) h = every_append PlainRecord (records_of a.it) _ (records-plain a.it.name a.it.fields a.it.pick h.0.0 h.0.1 h.0.2) (log-plain ds h.1)

last-plain : (k : Bytes) (r : Recorded) (rs : List Recorded) → PlainRecord r → Every PlainRecord rs → PlainRecord (last_of k r rs)
last-plain k r [] h e = h
last-plain k r (x ∷ xs) h e = last-plain k (cond (same k x.key) x r) xs (go (same k x.key)) e.1
  where
    go : (b : Bool) → PlainRecord (cond b x r)
    go true = e.0
    go false = h

by-key-plain : (before rs : List Recorded) → Every PlainRecord rs → Every PlainRecord (records_by_key before rs)
by-key-plain before [] e = tt
by-key-plain before (r ∷ rs) e = go (seen r.key before) (by-key-plain (r ∷ before) rs e.1)
  where
    go : (b : Bool) → Every PlainRecord (records_by_key (r ∷ before) rs) → Every PlainRecord (cond b (records_by_key (r ∷ before) rs) (last_of r.key r rs ∷ records_by_key (r ∷ before) rs))
    go true h = h
    go false h = (last-plain r.key r rs e.0 e.1, h)

-- ---- constants

abbrev KeyPlain : Const → Type 0
KeyPlain c = is_plain_text (key_text c.key) ≡ true

entries-plain : (impl : Option Bytes) (w : Option Module) (n : Bytes) (v : Option ConstVal) → PlainWithin w → is_plain_text n ≡ true → Every KeyPlain (entries impl w n v)
unfolding is_plain_text
entries-plain impl None n v w h = (h, tt)
entries-plain impl (Some m) n v w h = go (implements impl (Some m))
  where
    go : (b : Bool) → Every KeyPlain ((cond b (record { key = plain n; value = v } ∷ []) []) ++ (record { key = qualified m.name n; value = v } ∷ []))
    go true = (h, (plain-append (m.name ++ bytes "->") n (plain-append m.name (bytes "->") w refl) h, tt))
    go false = (plain-append (m.name ++ bytes "->") n (plain-append m.name (bytes "->") w refl) h, tt)

LogPlain : Folding → Type 0
LogPlain f = Every KeyPlain f.log

entered-plain : (impl : Option Bytes) (c : Located ConstDecl) (v : Result ConstVal) (go : List Const → Folding) (log : List Const) → PlainConst c → Every KeyPlain log
    → ((l : List Const) → Every KeyPlain l → LogPlain (go l)) → LogPlain (entered impl c v go log)
unfolding LogPlain
entered-plain impl c (ok v) go log h e next = next _ (every_append KeyPlain (entries impl c.within c.it.name (Some v)) log (entries-plain impl c.within c.it.name (Some v) h.1 h.0) e)
entered-plain impl c failed go log h e next = next _ (every_append KeyPlain (entries impl c.within c.it.name None) log (entries-plain impl c.within c.it.name None h.1 h.0) e)
entered-plain impl c (refuse r) go log h e next = e

pass-plain : (impl : Option Bytes) (cs : List (Located ConstDecl)) (i : IotaCounter) (log : List Const) → Every PlainConst cs → Every KeyPlain log → LogPlain (pass impl cs i log)
unfolding LogPlain
pass-plain impl [] i log h e = e
pass-plain impl (c ∷ cs) i log h e = entered-plain impl c (fold (record { log = log }) (pos (iota_at c.it.line c.it.col i)) c.it.value) (pass impl cs (iota_next c.it.line c.it.col i)) log h.0 e (λ l k. pass-plain impl cs (iota_next c.it.line c.it.col i) l h.1 k)

passes-plain : (impl : Option Bytes) (ps : List (List (Located ConstDecl))) (log : List Const) → Every (λ (p : List (Located ConstDecl)). Every PlainConst p) ps → Every KeyPlain log → LogPlain (passes_from impl ps log)
unfolding LogPlain
passes-plain impl [] log h e = e
passes-plain impl (p ∷ ps) log h e =
    let f = pass impl p new_counter log in
    go (is_none f.refused) (pass-plain impl p new_counter log h.0 e) (passes-plain impl ps f.log h.1 (pass-plain impl p new_counter log h.0 e))
  where
    go : (b : Bool) → LogPlain (pass impl p new_counter log) → LogPlain (passes_from impl ps (pass impl p new_counter log).log)
        → LogPlain (cond b (passes_from impl ps (pass impl p new_counter log).log) (pass impl p new_counter log))
    go true a b = b
    go false a b = a

modules-plain : (cs : List (Located ConstDecl)) (ms : List Module) → Every PlainConst cs → Every (λ (p : List (Located ConstDecl)). Every PlainConst p) (map (λ (m : Module). filter (stands_in m) cs) ms)
modules-plain cs [] h = tt
modules-plain cs (m ∷ ms) h = (every-filter PlainConst (stands_in m) cs h, modules-plain cs ms h)

keys-plain : (cs : List Const) → Every KeyPlain cs → Every (λ (k : Key). is_plain_text (key_text k) ≡ true) (keys_in cs)
keys-plain [] h = tt
keys-plain (c ∷ cs) h = go (any (same_key c.key) (keys_in cs)) (keys-plain cs h.1)
  where
    go : (b : Bool) → Every (λ (k : Key). is_plain_text (key_text k) ≡ true) (keys_in cs) → Every (λ (k : Key). is_plain_text (key_text k) ≡ true) (cond b (keys_in cs) (keys_in cs ++ (c.key ∷ [])))
    go true e = e
    go false e = every_append (λ (k : Key). is_plain_text (key_text k) ≡ true) (keys_in cs) (c.key ∷ []) e (h.0, tt)

-- ---- globals

abbrev DeclaredPlain : Declared → Type 0
DeclaredPlain d = is_plain_text d.name ≡ true

abbrev GlobalPlain : Global → Type 0
GlobalPlain g = is_plain_text g.name ≡ true

plain-names : (f : Bytes → Bool) (ns : List Bytes) → Plain ns → Plain (filter f ns)
plain-names f [] h = tt
plain-names f (n ∷ ns) h = go (f n) (plain-names f ns h.1)
  where
    go : (b : Bool) → Plain (filter f ns) → Plain (cond b (n ∷ filter f ns) (filter f ns))
    go true e = (h.0, e)
    go false e = e

declared-plain : (d : Bytes → Declared) → ((n : Bytes) → (d n).name ≡ n) → (ns : List Bytes) → Plain ns → Every DeclaredPlain (map d ns)
declared-plain d q [] h = tt
declared-plain d q (n ∷ ns) h = (rw (q n) h.0, declared-plain d q ns h.1)

vars-plain : (ns : Names) (vs : List (Located VarDecl)) → Every (λ (v : Located VarDecl). Plain v.it.names) vs → Every DeclaredPlain (concat_map (declared_by ns) vs)
vars-plain ns [] h = tt
vars-plain ns (v ∷ vs) h =
    every_append DeclaredPlain (declared_by ns v) _ (declared-plain _ (λ n. refl) (laid_names v.it.names) (plain-names _ v.it.names h.0)) (vars-plain ns vs h.1)

pend-plain : (n : Bytes) (i : Init) → is_plain_text n ≡ true → Plain (pend_of n i)
pend-plain n no_init h = tt
pend-plain n (const_init v) h = tt
pend-plain n (array_init a) h = tt
pend-plain n pending_init h = (h, tt)

plain-join : (xs ys : List Bytes) → Plain xs → Plain ys → Plain (xs ++ ys)
plain-join [] ys a b = b
plain-join (x ∷ xs) ys a b = (a.0, plain-join xs ys a.1 b)

abbrev GlobalsPlain : Globals → Type 0
GlobalsPlain g = Every GlobalPlain g.places × Plain g.pends

declare-plain : (d : Declared) (o : Option ℕ) (g : Globals) → DeclaredPlain d → GlobalsPlain g → GlobalsPlain (declare_at d o g)
declare-plain d None g h e = (every_append GlobalPlain g.places _ e.0 (h, tt), plain-join g.pends _ e.1 (pend-plain d.name d.first h))
declare-plain d (Some off) g h e = (e.0, plain-join g.pends _ e.1 (pend-plain d.name d.first h))

globals-plain : (g : Globals) (ds : List Declared) → Every DeclaredPlain ds → GlobalsPlain g → GlobalsPlain (globals_from g ds)
globals-plain g [] h e = e
globals-plain g (d ∷ ds) h e = globals-plain (declare_at d (place_of d.name g.places) g) ds h.1 (declare-plain d (place_of d.name g.places) g h.0 e)

-- ---- the whole

pub plain-listing : (s : Source) (ns : Names) → PlainSource s → PlainNames s (constants s).log (globals ns s)
unfolding records constants LogPlain
plain-listing s ns h =
    let g = globals-plain no_globals (declared_in ns s) (vars-plain ns (laid_vars s) (every-filter (λ (v : Located VarDecl). Plain v.it.names) _ s.vars h.vars)) (tt, tt) in
    record {
      records = by-key-plain [] (record_log (recorded_adts s)) (log-plain s.adts h.adts);
      consts = keys-plain (constants s).log
          (passes-plain s.implement (passes_of s) []
          (every_append (λ (p : List (Located ConstDecl)). Every PlainConst p) (module_passes s) (top_level s ∷ []) (modules-plain s.consts s.modules h.consts)
          (every-filter PlainConst _ s.consts h.consts, tt)) tt);
      places = g.0;
      pends = g.1;
    }
