-- The pointers of records. A record with pick takes all its variants' pointers, each of which has the common fields' again: marking those once is enough.
use mathlib.Core.Path.{◌≡◌, refl, sym, ap, ◌∙◌}
use mathlib.Core.Bool.{Bool, true, false, ◌||◌}
use mathlib.Core.List.{List, [], ◌∷◌, ◌++◌, map, append_assoc}
use Prim.Native.Nat.{ℕ, suc, ◌+◌, ◌-◌, ◌≤◌, ◌<◌, max}
use native.Mathlib.Numerals.{add-one}
use lib.IntN.{ℤ}
use lib.ListN.{length, drop, get_or, drop_of_length-le}
use lib.Seq.{drop-cons}
use Rattle.semantics.specs.Tree.{Fd, Case, Shape, no_case}
use Rattle.semantics.specs.Sheet.{concat_map}
use Rattle.semantics.specs.Layout.{marked, pointer_map, place, pointers_of, shape_of, pick_shape, behind_tag, variant_shape}
use Rattle.lines.specs.Lines.{form_at}
use Rattle.sizes.specs.Places.{decl_at, common_fields, case_fields, RecordLine}
use Rattle.maps.specs.Maps.{Marks}
use Rattle.shapes.specs.Shapes.{shape_at, cases_at, variant_at, PickLine, CaseOf}
use Rattle.marks.specs.Fields.{AllMarked}
use Rattle.maps.proofs.Bits.{marked_append, map_same}
use Rattle.maps.proofs.Maps.{marks-none, marks_then, marks-same}
use Rattle.shapes.proofs.Sizes.{adt-shape, pick-shape}
use Rattle.marks.proofs.Marking.{append-none, pointers-append}

-- ---- all variants together

pick-pointers : (x : Shape) (vs : List Shape) → (pick_shape x vs).pointers ≡ x.pointers ++ concat_map (λ (v : Shape). v.pointers) vs
pick-pointers x [] = sym (append-none x.pointers)
pick-pointers x (v ∷ vs) =
    pick-pointers (record { size = max x.size v.size; pointers = x.pointers ++ v.pointers }) vs ∙
    append_assoc x.pointers v.pointers (concat_map (λ (y : Shape). y.pointers) vs)

-- what cases mark by themselves, from `end` on
abbrev pub own_marks : ℕ → List Case → List ℤ
own_marks end ks = concat_map (λ (k : Case). pointers_of (place end k.fields).placed) ks

module _ (fs : List Fd) where
  abbrev common_marks : List ℤ
  common_marks = pointers_of (place behind_tag fs).placed

  abbrev end : ℕ
  end = (place behind_tag fs).end

  variant-pointers : (k : Case) → (variant_shape fs k).pointers ≡ common_marks ++ pointers_of (place end k.fields).placed
  unfolding shape_of
  variant-pointers k = pointers-append (place behind_tag fs).placed (place end k.fields).placed

  -- common fields again mark nothing more
  again : (a b o v : Bool) → a || o ≡ a || v → a || (b || o) ≡ a || ((a || b) || v)
  again true b o v h = refl
  again false true o v h = refl
  again false false o v h = h

  same-words : (size w : ℕ) (ks : List Case)
      → marked size common_marks w || marked size (own_marks end ks) w ≡ marked size common_marks w || marked size (concat_map (λ (v : Shape). v.pointers) (map (variant_shape fs) ks)) w
  same-words size w [] = refl
  same-words size w (k ∷ ks) =
      let own = pointers_of (place end k.fields).placed in
      let rest = concat_map (λ (v : Shape). v.pointers) (map (variant_shape fs) ks) in
      rw (marked_append size own (own_marks end ks) w, marked_append size (variant_shape fs k).pointers rest w, variant-pointers k, marked_append size common_marks own w)
      (again (marked size common_marks w) (marked size own w) (marked size (own_marks end ks) w) (marked size rest w) (same-words size w ks))

  pick-map : (size : ℕ) (ks : List Case)
      → pointer_map size (common_marks ++ own_marks end ks) ≡ pointer_map size (pick_shape (shape_of behind_tag (place behind_tag fs).placed) (map (variant_shape fs) ks)).pointers
  unfolding shape_of
  pick-map size ks =
      let vs = concat_map (λ (v : Shape). v.pointers) (map (variant_shape fs) ks) in
      rw (pick-pointers (shape_of behind_tag (place behind_tag fs).placed) (map (variant_shape fs) ks))
      (map_same size (common_marks ++ own_marks end ks) (common_marks ++ vs) (λ w. marked_append size common_marks (own_marks end ks) w ∙ same-words size w ks ∙ sym (marked_append size common_marks vs w)))

-- ---- case by case

-- the fields of the first c cases are marked, which begin at `end`
pub record CasesMarked (s : List ℕ) (r size end c : ℕ) (t u : List ℕ) : Type 0 where
  pub done : List ℤ
  pub marks : Marks size done t u
  pub rest : done ++ own_marks end (drop c (cases_at s r)) ≡ own_marks end (cases_at s r)

module _ (s : List ℕ) (r size : ℕ) where
  pub cases-marked-start : {end : ℕ} {t : List ℕ} → CasesMarked s r size end 0 t t
  cases-marked-start = record { done = []; marks = marks-none; rest = refl }

  pub cases-marked-next : {end c v p : ℕ} {t u w : List ℕ} → CasesMarked s r size end c t u → c < length (cases_at s r) → CaseOf s r c v → AllMarked (case_fields s v) size end p u w
      → CasesMarked s r size end (c + 1) t w
  cases-marked-next {end} {c} {v} {p} {t} {u} {w} m h k a =
      let own = pointers_of (place end (get_or (cases_at s r) c no_case).fields).placed in
      record {
        done = m.done ++ own;
        marks = marks_then m.marks (rw (ap (λ (x : Case). x.fields) k.case) at a.marks);
        rest = rw (add-one c, append_assoc m.done own (own_marks end (drop (suc c) (cases_at s r)))) (rw (drop-cons (cases_at s r) c no_case h) at m.rest);
      }

  pub cases-marked-end : {end c : ℕ} {t u w : List ℕ} → PickLine s r → AllMarked (common_fields s r) size behind_tag end t u → CasesMarked s r size end c u w → length (cases_at s r) ≤ c
      → Marks size (shape_at s r).pointers t w
  cases-marked-end {end} {c} l a m h =
      let e : m.done ≡ own_marks end (cases_at s r) = sym (append-none m.done) ∙ (rw (drop_of_length-le (cases_at s r) h) at m.rest) in
      marks-same (pick-map (decl_at s r).fields size (cases_at s r) ∙ sym (ap (λ (x : Shape). pointer_map size x.pointers) (pick-shape s r l)))
      (marks_then a.marks (rw (e, a.end) at m.marks))

  -- ---- an `adt` line, and one case

  pub adt-marks : {q : ℕ} {t u : List ℕ} → RecordLine s r → form_at s (r - 1) ≡ 26 → AllMarked (common_fields s r) size 0 q t u → Marks size (shape_at s r).pointers t u
  unfolding shape_of
  adt-marks l e a = rw (adt-shape s r l e) a.marks

  pub variant-marks : {c v q p : ℕ} {t u w : List ℕ} → AllMarked (common_fields s r) size behind_tag q t u → CaseOf s r c v → AllMarked (case_fields s v) size q p u w
      → Marks size (variant_at s r c).pointers t w
  unfolding variant_at
  variant-marks {c} a k b =
      rw (variant-pointers (decl_at s r).fields (get_or (cases_at s r) c no_case))
      (marks_then a.marks (rw (a.end, ap (λ (x : Case). x.fields) k.case) at b.marks))
