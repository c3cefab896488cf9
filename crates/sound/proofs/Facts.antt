-- What holds of the declarations of a checked sheet: plain names, few frames and needs, first values of 64 bits.
use Prim.Native.Nat.{ℕ, suc, ◌≤◌}
use mathlib.Core.Bool.{Bool, true, false, cond}
use mathlib.Core.List.{List, [], ◌∷◌, map}
use Rattle.std.specs.Prelude.{Option, None}
use lib.ListN.{length}
use Rattle.semantics.specs.Text.{Bytes}
use Rattle.semantics.specs.Tree.{AdtDecl, ConstDecl, VarDecl, Declares, Node}
use Rattle.semantics.specs.Sheet.{Module, Located, opened, open_after, located_from, sheet_source}
use Rattle.semantics.specs.Const.{names_of}
use Rattle.semantics.specs.Global.{Declared, declared_in}
use Rattle.lines.specs.Lines.{nodes_in}
use Rattle.checks.specs.Checks.{Checked}
use Rattle.checks.proofs.Laws.{few-consts}
use Rattle.stored.proofs.Rows.{Plain}
use Rattle.stored.proofs.Names.{PlainAdt, PlainWithin, PlainConst, PlainSource}
use Rattle.stored.proofs.Ranges.{SoundFirst}
use Rattle.sound.proofs.Limits.{LimitedInit, LimitedDecl, LimitedVar, LimitedNode}
use Rattle.sound.proofs.Nodes.{nodes-limited}
use Rattle.sound.proofs.Constants.{LimitedValue, constants-limited}
use Rattle.sound.proofs.Arrays.{firsts-sound}
use Rattle.laws.specs.Every.{Every}
use Rattle.laws.proofs.Every.{every_append, every_map}

-- ---- declarations with their lines and modules

-- the module that is open behind a line has a plain name
opened-plain : (k : ℕ) (ns : List Bytes) (o : Option Module) → Plain ns → PlainWithin o → PlainWithin (opened k ns o)
opened-plain k [] o h w = w
opened-plain k (n ∷ ns) o h w = h.0

after-plain : (k : ℕ) (d : Declares) (o : Option Module) → Plain d.opens → PlainWithin o → PlainWithin (open_after k d o)
after-plain k d o h w = go d.closes
  where
    go : (b : Bool) → PlainWithin (cond b None (opened k d.opens o))
    go true = tt
    go false = opened-plain k d.opens o h w

module _ {A : Type 0} (f : Declares → List A) where
  abbrev at : ℕ → Option Module → A → Located A
  at k o a = record { line = k; within = o; it = a }

  module _ (P : A → Type 0) where
    abbrev LocatedAs : Located A → Type 0
    LocatedAs l = P l.it × PlainWithin l.within

    every-located : (k : ℕ) (o : Option Module) (xs : List A) → PlainWithin o → Every P xs → Every LocatedAs (map (at k o) xs)
    every-located k o [] w h = tt
    every-located k o (x ∷ xs) w h = ((h.0, w), every-located k o xs w h.1)

    all-located : ((n : Node) → LimitedNode n → Every P (f n.declares)) → (k : ℕ) (o : Option Module) (ns : List Node) → PlainWithin o → Every LimitedNode ns → Every LocatedAs (located_from f k o ns)
    all-located g k o [] w h = tt
    all-located g k o (n ∷ ns) w h =
        every_append LocatedAs (map (at k o) (f n.declares)) (located_from f (suc k) (open_after k n.declares o) ns) (every-located k o (f n.declares) w (g n h.0))
        (all-located g (suc k) (open_after k n.declares o) ns (after-plain k n.declares o h.0.opens w) h.1)

-- ---- the facts

module _ (s : Bytes) (c : Checked s) where
  abbrev nodes : Every LimitedNode (nodes_in s)
  nodes = nodes-limited s c.whole

  adts-plain : Every (λ (a : Located AdtDecl). PlainAdt a.it × PlainWithin a.within) (sheet_source s).adts
  unfolding sheet_source
  adts-plain = all-located (λ (d : Declares). d.adts) PlainAdt (λ m h. h.adts) 1 None (nodes_in s) tt nodes

  consts-limited : Every (λ (a : Located ConstDecl). LimitedDecl a.it × PlainWithin a.within) (sheet_source s).consts
  unfolding sheet_source
  consts-limited = all-located (λ (d : Declares). d.consts) LimitedDecl (λ m h. h.consts) 1 None (nodes_in s) tt nodes

  vars-limited : Every (λ (a : Located VarDecl). LimitedVar a.it × PlainWithin a.within) (sheet_source s).vars
  unfolding sheet_source
  vars-limited = all-located (λ (d : Declares). d.vars) LimitedVar (λ m h. h.vars) 1 None (nodes_in s) tt nodes

  -- names hold no separators
  pub plain-source : PlainSource (sheet_source s)
  plain-source = record {
    adts = every_map _ (λ (a : Located AdtDecl). PlainAdt a.it) (λ a h. h.0) (sheet_source s).adts adts-plain;
    consts = every_map _ PlainConst (λ a h. (h.0.0, h.1)) (sheet_source s).consts consts-limited;
    vars = every_map _ (λ (v : Located VarDecl). Plain v.it.names) (λ v h. h.0.0) (sheet_source s).vars vars-limited;
  }

  pub few-frames : length (sheet_source s).frames ≤ 128
  unfolding sheet_source
  few-frames = c.bounds.frames

  pub few-needs : length (sheet_source s).needs ≤ 128
  unfolding sheet_source
  few-needs = c.bounds.needs

  -- first values have 64 bits
  pub sound-firsts : Every (λ (d : Declared). SoundFirst d.first) (declared_in (names_of (sheet_source s)) (sheet_source s))
  sound-firsts =
      firsts-sound (names_of (sheet_source s))
      (constants-limited (sheet_source s) (few-consts c) (every_map _ LimitedValue (λ a h. h.0.1) (sheet_source s).consts consts-limited)) (sheet_source s)
      (every_map _ (λ (v : Located VarDecl). LimitedInit v.it.init) (λ v h. h.0.1) (sheet_source s).vars vars-limited)
