-- The constants of a source with few constants, whose literals are within the limits, have values within the limits.
use Prim.Native.Nat.{ℕ, suc, ◌+◌, ◌≤◌}
use native.Mathlib.Omega.{arith}
use mathlib.Core.Bool.{Bool, true, false, cond}
use mathlib.Core.List.{List, [], ◌∷◌, ◌++◌, map}
use Rattle.std.specs.Prelude.{Option, None, Some}
use lib.IntN.{pos}
use lib.ListN.{length}
use borrow.Author.Tests.{le-leb}
use Rattle.semantics.specs.Text.{Bytes, filter, is_none}
use Rattle.semantics.specs.Tree.{ConstVal, ConstDecl}
use Rattle.semantics.specs.Sheet.{Module, Located, Source}
use Rattle.semantics.specs.Fold.{Result, Const, plain, qualified, fold}
use Rattle.semantics.specs.Fold.Result.{ok, failed, refuse}
use Rattle.semantics.specs.Const.{IotaCounter, new_counter, same_group, iota_at, iota_next, Folding, implements, entries, entered, pass, stands_in, module_passes, top_level, passes_of, passes_from, constants}
use Rattle.semantics.proofs.Common.{filter-less}
use Rattle.stored.proofs.Items.{Fits64}
use Rattle.sound.proofs.Limits.{LimitedOption, LimitedEx}
use Rattle.sound.proofs.Folds.{LimitedResult, LimitedConst, fold-limited}
use Rattle.laws.specs.Every.{Every}
use Rattle.laws.proofs.Every.{every_append, every-filter}

abbrev pub LimitedValue : Located ConstDecl → Type 0
LimitedValue c = LimitedEx c.it.value

LimitedLog : Folding → Type 0
LimitedLog f = Every LimitedConst f.log

-- ---- iota

iota-few : (line col : ℕ) (i : IotaCounter) → iota_at line col i ≤ i.value
iota-few line col i = go (same_group line col i.group)
  where
    go : (b : Bool) → cond b i.value 0 ≤ i.value
    go true = omega arith
    go false = omega arith

few-fits : (n : ℕ) → n ≤ 128 → Fits64 (pos n)
few-fits n h = le-leb n 9223372036854775807 (omega arith)

next-few : (line col : ℕ) (i : IotaCounter) → (iota_next line col i).value ≤ suc i.value
unfolding iota_next
next-few line col i = omega (arith, iota-few line col i)

-- ---- a pass

entries-limited : (impl : Option Bytes) (w : Option Module) (n : Bytes) (v : Option ConstVal) → LimitedOption v → Every LimitedConst (entries impl w n v)
entries-limited impl None n v h = (h, tt)
entries-limited impl (Some m) n v h = go (implements impl (Some m))
  where
    go : (b : Bool) → Every LimitedConst ((cond b (record { key = plain n; value = v } ∷ []) []) ++ (record { key = qualified m.name n; value = v } ∷ []))
    go true = (h, (h, tt))
    go false = (h, tt)

entered-limited : (impl : Option Bytes) (c : Located ConstDecl) (r : Result ConstVal) (go : List Const → Folding) (log : List Const) → LimitedResult r → Every LimitedConst log
    → ((l : List Const) → Every LimitedConst l → LimitedLog (go l)) → LimitedLog (entered impl c r go log)
unfolding LimitedLog
entered-limited impl c (ok v) go log h e next = next _ (every_append LimitedConst (entries impl c.within c.it.name (Some v)) log (entries-limited impl c.within c.it.name (Some v) h) e)
entered-limited impl c failed go log h e next = next _ (every_append LimitedConst (entries impl c.within c.it.name None) log (entries-limited impl c.within c.it.name None tt) e)
entered-limited impl c (refuse r) go log h e next = e

pass-limited : (impl : Option Bytes) (cs : List (Located ConstDecl)) (i : IotaCounter) (log : List Const) → i.value + length cs ≤ 128 → Every LimitedValue cs → Every LimitedConst log
    → LimitedLog (pass impl cs i log)
unfolding LimitedLog
pass-limited impl [] i log k h e = e
pass-limited impl (c ∷ cs) i log k h e =
    let d = c.it in
    let z = few-fits (iota_at d.line d.col i) (omega (arith, iota-few d.line d.col i, k)) in
    entered-limited impl c (fold (record { log = log }) (pos (iota_at d.line d.col i)) d.value) (pass impl cs (iota_next d.line d.col i)) log
    (fold-limited (record { log = log }) e (pos (iota_at d.line d.col i)) z d.value h.0) e
    (λ l g. pass-limited impl cs (iota_next d.line d.col i) l (omega (arith, next-few d.line d.col i, k)) h.1 g)

-- ---- the passes

abbrev FewLimited : List (Located ConstDecl) → Type 0
FewLimited cs = (length cs ≤ 128) × Every LimitedValue cs

passes-limited : (impl : Option Bytes) (ps : List (List (Located ConstDecl))) (log : List Const) → Every FewLimited ps → Every LimitedConst log → LimitedLog (passes_from impl ps log)
unfolding LimitedLog
passes-limited impl [] log h e = e
passes-limited impl (p ∷ ps) log h e =
    let f = pass impl p new_counter log in
    let g = pass-limited impl p new_counter log (omega (arith, h.0.0)) h.0.1 e in
    go (is_none f.refused) g (passes-limited impl ps f.log h.1 g)
  where
    go : (b : Bool) → LimitedLog (pass impl p new_counter log) → LimitedLog (passes_from impl ps (pass impl p new_counter log).log)
        → LimitedLog (cond b (passes_from impl ps (pass impl p new_counter log).log) (pass impl p new_counter log))
    go true g k = k
    go false g k = g

filtered : (f : Located ConstDecl → Bool) (cs : List (Located ConstDecl)) → FewLimited cs → FewLimited (filter f cs)
filtered f cs h = (omega (arith, filter-less f cs, h.0), every-filter LimitedValue f cs h.1)

modules-limited : (cs : List (Located ConstDecl)) (ms : List Module) → FewLimited cs → Every FewLimited (map (λ (m : Module). filter (stands_in m) cs) ms)
modules-limited cs [] h = tt
modules-limited cs (m ∷ ms) h = (filtered (stands_in m) cs h, modules-limited cs ms h)

pub constants-limited : (s : Source) → length s.consts ≤ 128 → Every LimitedValue s.consts → Every LimitedConst (constants s).log
unfolding constants LimitedLog
constants-limited s k h =
    passes-limited s.implement (passes_of s) []
    (every_append FewLimited (module_passes s) (top_level s ∷ []) (modules-limited s.consts s.modules (k, h)) (filtered _ s.consts (k, h), tt)) tt
