-- The declarations of all lines are those of the first lines, up to the last.
use mathlib.Core.Path.{◌≡◌, refl, sym, ap, ◌∙◌}
use mathlib.Core.List.{List, [], ◌∷◌, ◌++◌, map, append_assoc, append-nil, map-append}
use Prim.Native.Nat.{ℕ, zero, suc, ◌+◌, ◌≤◌, ◌<◌}
use native.Mathlib.Omega.{arith}
use lib.ListN.{length, drop, drop_of_length-le, length-append}
use lib.Seq.{drop-cons}
use Rattle.semantics.specs.Tree.{Declares, Node, no_node}
use Rattle.semantics.specs.Sheet.{Located, located_from, located, declared, source_of, sheet_source}
use Rattle.lines.specs.Lines.{nodes_in}
use Rattle.source.specs.Walk.{declares_at, open_at, declared_to, located_to}

map_same : {A B C : Type 0} (g : B → C) (h : A → B) (k : A → C) (l : List A) → ((x : A) → g (h x) ≡ k x) → map g (map h l) ≡ map k l
map_same g h k [] e = refl
map_same g h k (x ∷ l) e = rw (e x, map_same g h k l e)

map-id : {A : Type 0} (l : List A) → map (λ (x : A). x) l ≡ l
map-id [] = refl
map-id (x ∷ l) = rw (map-id l)

module _ {A : Type 0} (f : Declares → List A) (ns : List Node) where
  -- one more line
  located-step : (i : ℕ) → i < length ns
      → located_to f ns i ++ located_from f (suc i) (open_at ns i) (drop i ns) ≡ located_to f ns (suc i) ++ located_from f (suc (suc i)) (open_at ns (suc i)) (drop (suc i) ns)
  unfolding located_to open_at
  located-step i h =
      ap (λ (l : List Node). located_to f ns i ++ located_from f (suc i) (open_at ns i) l) (drop-cons ns i no_node h)
      ∙ sym (append_assoc (located_to f ns i) (map (λ (a : A). record { line = suc i; within = open_at ns i; it = a }) (f (declares_at ns i))) (located_from f (suc (suc i)) (open_at ns (suc i)) (drop (suc i) ns)))

  located-rest : (d i : ℕ) → i + d ≡ length ns → located f ns ≡ located_to f ns i ++ located_from f (suc i) (open_at ns i) (drop i ns) → located f ns ≡ located_to f ns (length ns)
  located-rest zero i h e =
      let z : i ≡ length ns = omega arith in
      e ∙ rw (drop_of_length-le ns {i = i} (omega arith)) (append-nil (located_to f ns i)) ∙ ap (located_to f ns) z
  located-rest (suc d) i h e = located-rest d (suc i) (omega arith) (e ∙ located-step i (omega arith))

  pub located-all : located f ns ≡ located_to f ns (length ns)
  unfolding located_to open_at
  located-all = located-rest (length ns) 0 (omega arith) refl

  declared-rest : (d i : ℕ) → i + d ≡ length ns → declared f ns ≡ declared_to f ns i ++ declared f (drop i ns) → declared f ns ≡ declared_to f ns (length ns)
  unfolding declared_to
  declared-rest zero i h e =
      let z : i ≡ length ns = omega arith in
      e ∙ rw (drop_of_length-le ns {i = i} (omega arith)) (append-nil (declared_to f ns i)) ∙ ap (declared_to f ns) z
  declared-rest (suc d) i h e =
      declared-rest d (suc i) (omega arith)
      (e ∙ ap (λ (l : List Node). declared_to f ns i ++ declared f l) (drop-cons ns i no_node (omega arith))
      ∙ sym (append_assoc (declared_to f ns i) (f (declares_at ns i)) (declared f (drop (suc i) ns))))

  pub declared-all : declared f ns ≡ declared_to f ns (length ns)
  unfolding declared_to
  declared-all = declared-rest (length ns) 0 (omega arith) refl

  -- without lines and modules
  pub located-its : (i : ℕ) → map (λ (l : Located A). l.it) (located_to f ns i) ≡ declared_to f ns i
  unfolding located_to declared_to
  located-its zero = refl
  located-its (suc i) =
      let w : A → Located A = λ (a : A). record { line = suc i; within = open_at ns i; it = a } in
      map-append (λ (l : Located A). l.it) (located_to f ns i) (map w (f (declares_at ns i)))
      ∙ rw (located-its i, map_same (λ (l : Located A). l.it) w (λ (a : A). a) (f (declares_at ns i)) (λ x. refl), map-id (f (declares_at ns i)))

-- a sheet's declarations are those of its nodes
pub source-of : (s : List ℕ) → sheet_source s ≡ source_of (nodes_in s)
unfolding sheet_source
source-of s = refl

-- the first lines declare no more than all do
module _ {A : Type 0} (f : Declares → List A) (ns : List Node) where
  one_more : (i : ℕ) → length (declared_to f ns i) ≤ length (declared_to f ns (suc i))
  unfolding declared_to
  one_more i = omega (arith, length-append (declared_to f ns i) (f (declares_at ns i)))

  pub declared-more : (i d : ℕ) → length (declared_to f ns i) ≤ length (declared_to f ns (i + d))
  declared-more i zero = let z : i + 0 ≡ i = omega arith in rw z (omega arith)
  declared-more i (suc d) =
      let z : i + suc d ≡ suc (i + d) = omega arith in
      rw z (omega (arith, declared-more i d, one_more (i + d)))
