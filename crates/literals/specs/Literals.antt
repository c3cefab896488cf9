-- The lines of a literal: elements and selectors, and what work on them leaves.
use Rattle.std.specs.Prelude.{ℕ, ◌+◌, ◌-◌, ◌*◌, ◌≤◌, ◌<◌, ◌≡◌, List, [], ℤ, drop, get_or, Option, Ok, Err}
use Rattle.semantics.specs.Text.{Bytes}
use Rattle.semantics.specs.Tree as Tree
use Rattle.semantics.specs.Tree.{El, Els, Se, Ses}
use Rattle.semantics.specs.Form.{node_at, number_of, values, els_of, ses_of}
use Rattle.semantics.specs.Form.Kind.{k_el, k_se}
use Rattle.semantics.specs.Form.Atom.{ref}
use Rattle.semantics.specs.Fold.{Result, bind, Names}
use Rattle.semantics.specs.Fold.Result.{ok}
use Rattle.semantics.specs.Tree.El.{next as next_el, star, at}
use Rattle.semantics.specs.Array.{Filled, place_indices, place_next, place_spans, spans_of, set_wildcard}
use Rattle.lines.specs.Lines.{read_at, nodes_in, form_at}
use Rattle.checks.specs.Checks.{KindLine}
use Rattle.names.specs.Table.{ConstsLogged}
use Rattle.leaf.specs.Folds.{ExLine}
use Rattle.values.specs.declared.ConstVal.{ConstVal}
use Rattle.values.specs.Values.{Outcome, answered}
use Rattle.placements.specs.declared.Extent.{Extent}
use Rattle.placements.specs.Placements.{slot_at, element_in, Keeps, StringStands, Filling, Goes, Step}

-- ---- lines

-- what line r makes, from 1
abbrev pub el_at : Bytes → ℕ → El
el_at s r = (node_at (nodes_in s) r).el

abbrev pub se_at : Bytes → ℕ → Se
se_at s r = (node_at (nodes_in s) r).se

-- the selectors of an `el,at` line
abbrev pub ses_at : Bytes → ℕ → Ses
ses_at s r = ses_of (values (ref k_se) (nodes_in s) (number_of (get_or (read_at s (r - 1)).fields 1 [])) (drop 2 (read_at s (r - 1)).fields))

-- the elements of an `ex,lit` line
abbrev pub els_at : Bytes → ℕ → Els
els_at s r = els_of (values (ref k_el) (nodes_in s) (number_of (get_or (read_at s (r - 1)).fields 2 [])) (drop 3 (read_at s (r - 1)).fields))

-- where the strings of e elements end
abbrev pub above : ℕ → ℕ
above e = 49152 + 256 * e

-- line r, of kind k, is to be worked on by the first m constants, after e elements, each with 256 bytes for its string
pub record Task (k : ℕ) (s t : Bytes) (m r e : ℕ) : Type 0 where
  pub line : KindLine k s r
  pub log : ConstsLogged s t m
  pub few : e ≤ 16

-- and is an `el,at` line, form 22
pub record AtTask (s t : Bytes) (m r e : ℕ) : Type 0 where
  pub task : Task 76 s t m r e
  pub form : form_at s (r - 1) ≡ 22

-- and the value v of element e stands in its slot
pub record ValuedTask (s t : Bytes) (m r e : ℕ) (v : ConstVal) : Type 0 where
  pub task : Task 76 s t m r e
  pub stands : StringStands (above e) v
  pub value : slot_at t e ≡ v

-- it is an `el` line, 76, to be worked on after k elements
pub record ElementTask (s t : Bytes) (m r k : ℕ) : Type 0 where
  pub line : KindLine 76 s r
  pub log : ConstsLogged s t m
  pub few : k < 16

-- it is an `ex,lit` line, form 18
pub record LiteralLine (s : Bytes) (r : ℕ) : Type 0 where
  pub line : ExLine s r
  pub form : form_at s (r - 1) ≡ 18

-- ---- answers

-- t has become u, where y is what `act` makes of the literal so far
pub record Moves (t : Bytes) (e : ℕ) (x : Option Extent) (act : Tree.ConstVal → Result Filled → Result Filled) (y : Option Extent) (u : Bytes) : Type 0 where
  pub keeps : Keeps 12288 (above e) t u
  pub step : (r : Result Filled) → 0 < e → e ≤ 16 → Goes t (above e) e x r → Goes u (above e) e y (act (element_in t e) r)

-- a selector is a span, whose indices take the value v
pub record SpanPlaced (u : Bytes) (e : ℕ) (span : Result (ℤ × ℤ)) (v : Tree.ConstVal) (r : Result Filled) (y : Option Extent) : Type 0 where
  pub low : ℤ
  pub high : ℤ
  pub is : span ≡ ok (low, high)
  pub step : Goes u (above e) e y (bind r (place_indices v low high))

abbrev pub SelectorResult : Bytes → ℕ → Result (ℤ × ℤ) → Tree.ConstVal → Result Filled → Outcome (Option Extent) → Type 0
SelectorResult u e span v r (Ok y) = SpanPlaced u e span v r y
SelectorResult u e span v r (Err n) = span ≡ answered (Err n)

-- t has become u by a selector's span, which x goes before
pub record Selects (t : Bytes) (e : ℕ) (x : Option Extent) (span : Result (ℤ × ℤ)) (y : Outcome (Option Extent)) (u : Bytes) : Type 0 where
  pub keeps : Keeps 12288 (above e) t u
  pub result : (r : Result Filled) → 0 < e → e ≤ 16 → Goes t (above e) e x r → SelectorResult u e span (element_in t e) r y

-- t has become u by placing the value of element e: y is what `act` gives of it
pub record Fills (t : Bytes) (e : ℕ) (x : Extent) (act : Tree.ConstVal → Filled → Result Filled) (y : Outcome (Option Extent)) (u : Bytes) : Type 0 where
  pub keeps : Keeps 16384 49152 t u
  pub step : (f : Filled) → 0 < e → e ≤ 16 → Filling t (above e) e x.next x.reach f → Step u (above e) e y (act (element_in t e) f)

-- what an element makes of its value
abbrev pub placed : Names → El → Tree.ConstVal → Filled → Result Filled
placed ns (next_el e) v f = place_next v f
placed ns (star e) v f = ok (set_wildcard v f)
placed ns (at e ss) v f = bind (spans_of ns ss) (λ (l : List (ℤ × ℤ)). place_spans v l f)

-- t has become u by an element that comes after k others
pub record ElementFilled (t : Bytes) (k : ℕ) (x : Extent) (act : Filled → Result Filled) (y : Outcome (Option Extent)) (u : Bytes) : Type 0 where
  pub keeps : Keeps 16384 49152 t u
  pub step : (f : Filled) → Filling t (above k) k x.next x.reach f → Step u (above (k + 1)) (k + 1) y (act f)

-- t has become u by all elements of a literal, of which there are `count`
pub record AllFilled (t : Bytes) (r : Result Filled) (y : Outcome (Option Extent)) (u : Bytes) : Type 0 where
  pub keeps : Keeps 16384 49152 t u
  pub count : ℕ
  pub few : count ≤ 16
  pub step : Step u (above 16) count y r
