-- The pass over the lines that enters what they need.
use mathlib.Core.Path.{◌≡◌, refl, sym, ap, ◌∙◌}
use mathlib.Core.Bool.{Bool, true, false, cond}
use mathlib.Core.List.{List, [], ◌∷◌, ◌++◌}
use Rattle.std.specs.Prelude.{Option, None, Some}
use Prim.Native.Nat.{ℕ, zero, suc, ◌+◌, ◌≤◌, ◌<◌}
use native.Mathlib.Omega.{arith}
use native.Mathlib.Numerals.{add-one}
use lib.Dec.{eqb}
use lib.ListN.{length, get_or, length-append}
use borrow.Author.Tests.{eq-eqb, eqb-true, eqb-false}
use Rattle.semantics.specs.Text.{any}
use Rattle.semantics.specs.Tree.{ElemKind, TypeKey}
use Rattle.semantics.specs.Tree.TypeKey.{elem_key, opaque_key}
use Rattle.semantics.specs.Form.{letter}
use Rattle.semantics.specs.Sheet.{sheet_source}
use Rattle.semantics.specs.Types.{same_type_key, distinct, position}
use Rattle.lines.specs.Lines.{lines_in, text_at, read_at, form_at}
use Rattle.checks.specs.Checks.{Checked, Outside}
use Rattle.checks.proofs.Kept.{kept_less, outside-all, outside-then, outside-less}
use Rattle.words.specs.Words.{digest}
use Rattle.source.specs.Walk.{declared_to}
use Rattle.laws.proofs.Tests.{same-eq}
use Rattle.chains.specs.Chains.{newest_of, chain_of, digest_at, chain_at, in_chain, Chained}
use Rattle.chains.proofs.Laws.{newest-none-later, chained-none}
use Rattle.type_lines.specs.Needs.{need_at, needs_to, kind_by}
use Rattle.type_lines.proofs.ByForm.{is_kind, elem_is}
use Rattle.codes.specs.declared.element.Element.{Element}
use Rattle.codes.specs.Kinds.{element_kind}
use Rattle.type_lines.proofs.Spelling.{texts-are}
use Rattle.type_lines.proofs.Needs.{needs-all, needs-few, needs-next, needs_stay}
use Rattle.type_keys.specs.Table.{need_line_of, need_position_of, kind_position, need_chains, need_entered, digest_entered, Needs, Kinds}
use Rattle.type_keys.proofs.Distinct.{position-same, position-within, position-none, position-more, distinct_more, distinct-few, key-member, none-distinct, known_more}
use Rattle.type_keys.proofs.Table.{line-below, position-below, kind-above, kind-kept, entered-outside, entered-line, entered-position, other-line, other-position, kind-outside, kind-entered, digest-above, digest-outside, digest-new, digest-old, chained-entered, chained-above}
use Rattle.type_keys.proofs.Elements.{kinds-more}
use Rattle.need_keys.specs.Pass.{NeedEntry, Collecting, NeedNext, kind_by_need}

-- ---- the position of a need's key

-- whether need q has the key of the `need` line i
abbrev pub has_need_key : List ℕ → List ℕ → ℕ → ℕ → Bool
has_need_key s t i q = same_type_key (need_at s i) (need_at s (need_line_of t q))

any_none : (p : TypeKey → Bool) (l : List TypeKey) → ((q : ℕ) → q < length l → p (get_or l q opaque_key) ≡ false) → any p l ≡ false
any_none p [] h = refl
any_none p (k ∷ l) h = rw (h 0 (omega arith)) (any_none p l (λ q n. h (suc q) (omega arith)))

module _ {s t : List ℕ} {i needs keys : ℕ} (x : NeedNext s t i needs keys) where
  pub needs-room : (needs < 128) × (position (need_at s i) (distinct [] (needs_to s i)) ≤ 127) × (keys ≤ 127)
  needs-room =
      let e = needs-few s x.line.checked (i + 1) (omega (arith, x.line.within)) in
      let g = ap length (needs-next s x.line.checked i x.line.within x.line.kind) ∙ length-append (needs_to s i) (need_at s i ∷ []) in
      (omega (arith, e, g, x.collecting.count), omega (arith, e, g, position-within (need_at s i) (distinct [] (needs_to s i)), distinct-few [] (needs_to s i)), omega (arith, e, g, x.collecting.kinds.count, distinct-few [] (needs_to s i)))

  pub known-entry : (q : ℕ) → q < needs → NeedEntry s t q
  known-entry q h =
      let z : q < length (needs_to s i) = omega (arith, x.collecting.count) in
      record {
        low = omega (arith, needs-room.0);
        line = record { checked = x.collecting.checked; within = x.collecting.table.within q z; kind = x.collecting.table.kind q z };
        digest = x.collecting.digests q h;
      }

  module _ (q : ℕ) (h : q < needs) where
    low : q < length (needs_to s i)
    low = omega (arith, x.collecting.count)

    pub same-as : has_need_key s t i q ≡ same_type_key (need_at s i) (get_or (needs_to s i) q opaque_key)
    same-as = ap (same_type_key (need_at s i)) (x.collecting.table.key q low)

    -- a need with the key has its position
    pub found-position : {b : Bool} → b ≡ has_need_key s t i q → b ≡ true → need_position_of t q ≡ position (need_at s i) (distinct [] (needs_to s i))
    found-position e g = x.collecting.table.position q low ∙ sym (position-same (need_at s i) (get_or (needs_to s i) q opaque_key) (sym same-as ∙ sym e ∙ g) (distinct [] (needs_to s i)))

    -- and the digest of its line's text, so it is of that chain
    pub found-chain : {d : ℕ} → d ≡ digest (text_at s i) → has_need_key s t i q ≡ true → in_chain t need_chains (chain_of d) q ≡ true
    unfolding chain_at
    found-chain {d} e g =
        let z : text_at s i ≡ text_at s (need_line_of t q) = same-eq (text_at s i) (text_at s (need_line_of t q)) (texts-are x.line (known-entry q h).line ∙ g) in
        let y : digest_at t need_chains q ≡ d = x.collecting.digests q h ∙ sym (e ∙ ap (λ (l : List ℕ). digest l) z) in
        eq-eqb (chain_at t need_chains q) (chain_of d) (ap chain_of y)

  pub next-position : None ≡ newest_of (has_need_key s t i) needs → keys ≡ position (need_at s i) (distinct [] (needs_to s i))
  next-position z =
      let k = any_none (same_type_key (need_at s i)) (needs_to s i) (λ q h. let l : q < needs = omega (arith, x.collecting.count) in sym (same-as q l) ∙ newest-none-later (has_need_key s t i) z q (omega arith) l) in
      x.collecting.kinds.count ∙ sym (position-none (need_at s i) (distinct [] (needs_to s i)) (none-distinct (need_at s i) (needs_to s i) k))

-- ---- the kind that a need asks for

module _ (t : List ℕ) where
  need-outside : (o : Option Element) (p : ℕ) → Outside 10624 10629 t (kind_by_need t o p)
  need-outside None p = outside-all
  need-outside (Some k) p = kind-outside t (element_kind k) p

  need-entered : 62464 ≤ length t → (o : Option Element) (p : ℕ) (e : ElemKind) → kind_position (kind_by_need t o p) e ≡ cond (is_kind e o) (suc p) (kind_position t e)
  need-entered room None p e = refl
  need-entered room (Some k) p e = kind-entered t room (element_kind k) p e

-- ---- one key more

-- what holds of all keys and of one more
each : (l : List TypeKey) (k : TypeKey) (P : ℕ → TypeKey → Type 0) → ((q : ℕ) → q < length l → P q (get_or l q opaque_key)) → P (length l) k → (q : ℕ) → q < length (l ++ (k ∷ [])) → P q (get_or (l ++ (k ∷ [])) q opaque_key)
each [] k P a b zero h = b
each [] k P a b (suc q) h = absurd (omega arith)
each (x ∷ l) k P a b zero h = a 0 (omega arith)
each (x ∷ l) k P a b (suc q) h = each l k (λ q. P (suc q)) (λ q h. a (suc q) (omega arith)) b q (omega arith)

module _ {s t : List ℕ} (room : 62464 ≤ length t) {i needs keys : ℕ} (x : NeedNext s t i needs keys) {f p d : ℕ} (hf : f ≡ form_at s i) (hp : p ≡ position (need_at s i) (distinct [] (needs_to s i))) (hd : d ≡ digest (text_at s i))
    {u v w : List ℕ} (hu : u ≡ need_entered t needs i p) (hv : v ≡ kind_by_need u (kind_by f) p) (hw : w ≡ digest_entered v needs d) where
  first : Outside 10240 10624 t u
  first = rw hu (entered-outside t room needs i p (needs-room x).0)

  second : Outside 10624 10629 u v
  second = rw hv (need-outside u (kind_by f) p)

  long : 62464 ≤ length v
  long = omega (arith, room, first.kept.long, second.kept.long)

  third : Outside 10752 11264 v w
  third = rw hw (digest-outside v long needs d (needs-room x).0)

  later : Outside 10624 11264 u w
  later = outside-then (outside-less 10624 11264 (omega arith) (omega arith) second) (outside-less 10624 11264 (omega arith) (omega arith) third)

  pub collected-outside : Outside 10240 11264 t w
  collected-outside = outside-then (outside-less 10240 11264 (omega arith) (omega arith) first) (outside-less 10240 11264 (omega arith) (omega arith) later)

  line_at : (q : ℕ) → q < 128 → need_line_of w q ≡ need_line_of (need_entered t needs i p) q
  line_at q h = line-below later q h ∙ ap (λ (l : List ℕ). need_line_of l q) hu

  position_at : (q : ℕ) → q < 128 → need_position_of w q ≡ need_position_of (need_entered t needs i p) q
  position_at q h = position-below later q h ∙ ap (λ (l : List ℕ). need_position_of l q) hu

  module _ (q : ℕ) (h : q < length (needs_to s i)) where
    few : q < 128
    few = omega (arith, (needs-room x).0, x.collecting.count)

    apart : q ≡ needs → ⊥
    apart e = omega (arith, x.collecting.count)

    old-line : need_line_of w q ≡ need_line_of t q
    old-line = line_at q few ∙ other-line t room needs i p (needs-room x).0 q few apart

    old-position : need_position_of w q ≡ need_position_of t q
    old-position = position_at q few ∙ other-position t room needs i p (needs-room x).0 q few apart

  new_line : need_line_of w (length (needs_to s i)) ≡ i
  new_line = rw (← x.collecting.count) (line_at needs (needs-room x).0 ∙ entered-line t room needs i p (needs-room x).0)

  new-position : need_position_of w (length (needs_to s i)) ≡ p
  new-position = rw (← x.collecting.count) (position_at needs (needs-room x).0 ∙ entered-position t room needs i p (needs-room x).0)

  positions-stay : (q : ℕ) → q < length (needs_to s i) → need_position_of w q ≡ position (get_or (needs_to s i) q opaque_key) (distinct [] (needs_to s i ++ (need_at s i ∷ [])))
  positions-stay q h =
      old-position q h ∙ x.collecting.table.position q h
      ∙ sym (known_more (get_or (needs_to s i) q opaque_key) (needs_to s i) (need_at s i ∷ []) (key-member opaque_key (needs_to s i) q h)).1

  needs-more : Needs s w (needs_to s i ++ (need_at s i ∷ []))
  needs-more =
      let old = x.collecting.table in
      record {
        few = omega (arith, length-append (needs_to s i) (need_at s i ∷ []), (needs-room x).0, x.collecting.count);
        within = λ q h. each (needs_to s i) (need_at s i) (λ q k. need_line_of w q < lines_in s) (λ q h. rw (old-line q h) (old.within q h)) (rw new_line x.line.within) q h;
        kind = λ q h. each (needs_to s i) (need_at s i) (λ q k. letter (read_at s (need_line_of w q)).form.kind ≡ 78) (λ q h. rw (old-line q h) (old.kind q h)) (rw new_line x.line.kind) q h;
        key = λ q h. each (needs_to s i) (need_at s i) (λ q k. need_at s (need_line_of w q) ≡ k) (λ q h. rw (old-line q h) (old.key q h)) (ap (need_at s) new_line) q h;
        position = λ q h. each (needs_to s i) (need_at s i) (λ q k. need_position_of w q ≡ position k (distinct [] (needs_to s i ++ (need_at s i ∷ [])))) positions-stay (new-position ∙ hp ∙ rw (distinct_more (need_at s i) (needs_to s i)) (sym (position-more (need_at s i) (distinct [] (needs_to s i))))) q h;
      }

  kinds-are : (e : ElemKind) → kind_position w e ≡ cond (same_type_key (elem_key e) (need_at s i)) (suc (position (need_at s i) (distinct [] (needs_to s i)))) (kind_position t e)
  kinds-are e =
      kind-kept (kept_less (omega arith) third.kept) e
      ∙ ap (λ (l : List ℕ). kind_position l e) hv
      ∙ need-entered u (omega (arith, room, first.kept.long)) (kind_by f) p e
      ∙ rw (elem_is s i x.line e, ← hf, ← hp, kind-above first e)

  digests-are : (q : ℕ) → q < needs + 1 → digest_at w need_chains q ≡ digest (text_at s (need_line_of w q))
  digests-are q h = go (eqb q needs) refl
    where
      low : needs < 128
      low = (needs-room x).0

      go : (b : Bool) → eqb q needs ≡ b → digest_at w need_chains q ≡ digest (text_at s (need_line_of w q))
      go true e =
          let z : q ≡ needs = eqb-true q needs e in
          ap (digest_at w need_chains) z ∙ ap (λ (l : List ℕ). digest_at l need_chains needs) hw ∙ digest-new v long needs d low ∙ hd
          ∙ ap (λ (l : ℕ). digest (text_at s l)) (sym new_line ∙ ap (need_line_of w) (sym x.collecting.count ∙ sym z))
      go false e =
          let ne = eqb-false q needs e in
          let k : q < length (needs_to s i) = omega (arith, x.collecting.count) in
          ap (λ (l : List ℕ). digest_at l need_chains q) hw ∙ digest-old v long needs d low q (omega arith) ∙ digest-above (omega arith) second q ∙ digest-above (omega arith) first q
          ∙ x.collecting.digests q (omega (arith, x.collecting.count)) ∙ ap (λ (l : ℕ). digest (text_at s l)) (sym (old-line q k))

  chained-are : Chained w need_chains (needs + 1)
  chained-are = rw (add-one, hw) (chained-entered v long needs d (needs-room x).0 (chained-above (omega arith) second (chained-above (omega arith) first x.collecting.chained)))

  pub collected : (more : ℕ) → more ≡ length (distinct [] (needs_to s i ++ (need_at s i ∷ []))) → Collecting s w (i + 1) (needs + 1) more
  collected m hm =
      let c = x.collecting.checked in
      let e = needs-next s c i x.line.within x.line.kind in
      let few = needs-few s c (i + 1) (omega (arith, x.line.within)) in
      record {
        checked = c;
        digests = digests-are;
        chained = chained-are;
        within = omega (arith, x.line.within);
        count = rw e (sym (length-append (needs_to s i) (need_at s i ∷ []) ∙ omega (arith, x.collecting.count)));
        table = rw e needs-more;
        kinds = rw e (kinds-more (need_at s i) m x.collecting.kinds kinds-are hm (omega (arith, hm, distinct-few [] (needs_to s i ++ (need_at s i ∷ [])), ap length e, few)));
      }

-- ---- lines that need nothing, and the ends of the pass

module _ (s t : List ℕ) (i needs keys : ℕ) (x : Collecting s t i needs keys) where
  pub collecting-stay : i < lines_in s → (letter (read_at s i).form.kind ≡ 78 → ⊥) → Collecting s t (i + 1) needs keys
  collecting-stay h e =
      let z = needs_stay s x.checked i h e in
      record { checked = x.checked; within = omega arith; count = rw z x.count; table = rw z x.table; kinds = rw z x.kinds; digests = x.digests; chained = x.chained }

  pub collecting-need : i < lines_in s → letter (read_at s i).form.kind ≡ 78 → NeedNext s t i needs keys
  collecting-need h e = record { collecting = x; line = record { checked = x.checked; within = h; kind = e } }

  pub collecting-end : lines_in s ≤ i → (needs ≡ length (sheet_source s).needs) × (Needs s t (sheet_source s).needs) × (Kinds t (sheet_source s).needs keys)
  collecting-end h =
      let z : i ≡ lines_in s = omega (arith, x.within) in
      let e : needs_to s i ≡ (sheet_source s).needs = ap (needs_to s) z ∙ needs-all s x.checked in
      (x.count ∙ ap length e, rw e at x.table, rw e at x.kinds)

pub collecting-start : (s t : List ℕ) → Checked s → ((k : ElemKind) → kind_position t k ≡ 0) → Collecting s t 0 0 0
unfolding declared_to
collecting-start s t c z = record {
  checked = c;
  within = omega arith;
  count = refl;
  table = record {
    few = omega arith;
    within = λ q h. absurd (omega arith);
    kind = λ q h. absurd (omega arith);
    key = λ q h. absurd (omega arith);
    position = λ q h. absurd (omega arith);
  };
  kinds = record { count = refl; position = z; few = omega arith };
  digests = λ q h. absurd (omega arith);
  chained = chained-none t need_chains;
}
