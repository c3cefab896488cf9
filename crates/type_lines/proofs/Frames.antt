-- Which lines are `frame` lines, and how many there are.
use mathlib.Core.Path.{◌≡◌, refl, sym, ap, ◌∙◌}
use mathlib.Core.Bool.{Bool, true, false, cond}
use mir.Val.{bool_byte}
use mathlib.Core.List.{List, [], ◌∷◌, ◌++◌}
use Prim.Native.Nat.{ℕ, ◌+◌, ◌-◌, ◌≤◌, ◌<◌}
use native.Mathlib.Omega.{arith}
use native.Mathlib.Numerals.{add-one}
use lib.Dec.{eqb}
use lib.ListN.{length, length-append}
use Rattle.semantics.specs.Tree.{Declares}
use Rattle.semantics.specs.Form.{letter}
use Rattle.semantics.specs.Sheet.{sheet_source}
use Rattle.form.proofs.Table.{only-frame, form-of-kind}
use Rattle.lines.specs.Lines.{lines_in, read_at, nodes_in, form_at}
use Rattle.lines.proofs.Line.{form-low, kind-is}
use Rattle.refs.proofs.Nodes.{node-count}
use Rattle.checks.specs.Checks.{Checked}
use Rattle.source.specs.Walk.{declares_at, declared_to, by_kind}
use Rattle.source.proofs.Walk.{declared-all, source-of, declared-more}
use Rattle.source.proofs.Declares.{line-declares}
use Rattle.type_lines.specs.Shapes.{written_shape, ShapeLine, frames_to}

module _ (s : List ℕ) (c : Checked s) where
  pub frames-all : frames_to s (lines_in s) ≡ (sheet_source s).frames
  frames-all = rw (source-of s, declared-all (λ (d : Declares). d.frames) (nodes_in s), node-count s c.whole)

  pub frames-few : (i : ℕ) → i ≤ lines_in s → length (frames_to s i) ≤ 128
  frames-few i h =
      let z : i + (lines_in s - i) ≡ lines_in s = omega arith in
      let e : length (frames_to s i) ≤ length (frames_to s (lines_in s)) = rw z at (declared-more (λ (d : Declares). d.frames) (nodes_in s) i (lines_in s - i)) in
      let g : frames_to s (lines_in s) ≡ _ = sym (declared-all (λ (d : Declares). d.frames) (nodes_in s) ∙ rw (node-count s c.whole)) in
      omega (arith, e, ap length g, c.bounds.frames)

  module _ (i : ℕ) (h : i < lines_in s) where
    frames-at : (declares_at (nodes_in s) i).frames ≡ cond (eqb (letter (read_at s i).form.kind) 71) (written_shape s i ∷ []) []
    unfolding by_kind written_shape
    frames-at = ap (λ (d : Declares). d.frames) (line-declares s c i h)

    pub frames-by : (b : Bool) → b ≡ eqb (letter (read_at s i).form.kind) 71 → (declares_at (nodes_in s) i).frames ≡ cond b (written_shape s i ∷ []) []
    frames-by b e = frames-at ∙ rw (← e)

    pub frames-more : frames_to s (i + 1) ≡ frames_to s i ++ (declares_at (nodes_in s) i).frames
    unfolding declared_to
    frames-more = rw (add-one i)

    pub frames-count : (b : Bool) → b ≡ eqb (letter (read_at s i).form.kind) 71 → bool_byte b ≡ length (declares_at (nodes_in s) i).frames
    frames-count b e = rw (frames-by b e) (go b)
      where
        go : (b : Bool) → bool_byte b ≡ length (cond b (written_shape s i ∷ []) [])
        go true = refl
        go false = refl

    pub frames-step : length (frames_to s (i + 1)) ≡ length (frames_to s i) + length (declares_at (nodes_in s) i).frames
    frames-step = ap length frames-more ∙ length-append (frames_to s i) (declares_at (nodes_in s) i).frames

    pub frame-line : letter (read_at s i).form.kind ≡ 71 → ShapeLine s i
    frame-line e =
        let f : form_at s i ≡ 33 = form-of-kind only-frame (form_at s i) (form-low s c.whole i h) (sym (kind-is s c.whole i h) ∙ e) in
        record { checked = c; within = h; form = rw f }
