-- What the rows of an entry's record hold, by the line and the case that it names.
use mathlib.Core.Path.{◌≡◌, refl, sym, ap, ◌∙◌}
use mathlib.Core.List.{List, [], ◌∷◌, ◌++◌, append_assoc}
use Rattle.std.specs.Prelude.{Option, None, Some}
use mathlib.Core.Logic.{⊎_elim}
use Prim.Native.Nat.{ℕ, zero, suc, ◌+◌, ◌-◌, ◌≤◌, ◌<◌}
use native.Mathlib.Omega.{arith}
use lib.ListN.{drop, take}
use lib.IntN.{negsuc}
use Rattle.semantics.specs.Text.{Bytes, bytes, decimal, decimalℤ, hex_of}
use Rattle.semantics.specs.Tree.{AdtDecl, Case, Shape}
use Rattle.semantics.specs.Sheet.{concat_map}
use Rattle.semantics.specs.Layout.{map_length, Recorded, place, records_for, variant_fields, map_of}
use Rattle.semantics.specs.Listing.{row, record_rows, field_row}
use Rattle.write.specs.declared.Writer.{Writer}
use Rattle.write.specs.Writes.{Writes}
use Rattle.write.proofs.Writes.{writes_then}
use Rattle.layout.proofs.Bounds.{SizeAtMost}
use Rattle.lines.specs.Lines.{lines_in, form_at}
use Rattle.sizes.specs.Places.{common_fields, case_fields, RecordLine, first_decl, decl_at}
use Rattle.sizes.proofs.Records.{checked-records-bound}
use Rattle.maps.specs.Maps.{map_in, Mapped}
use Rattle.shapes.specs.Shapes.{first_shape, shape_at, cases_in, cases_at, variant_at, VariantLine, CaseOf}
use Rattle.records.specs.Log.{first_record, own_record, case_in, variant_record, record_in, entry_at, recorded_at, name_of, tag_of, log_of, no_record, EntryIn, LogEntry}
use Rattle.records.specs.Lines.{case_at}
use Rattle.records.proofs.Picks.{adt-decl, pick-decl, record-form, case-is}
use Rattle.records.proofs.Keys.{plain-key, variant-key, entry-line, entry-variant}
use Rattle.field_rows.specs.Rows.{placed_rows, field_rows}
use Rattle.field_rows.proofs.Fields.{placed-append}
use Rattle.record_rows.specs.Rows.{tag_text, rec_text, shape_text}
use Rattle.laws.proofs.Every.{every-at}

-- ---- T's own record

own-tag : (d : AdtDecl) → ((own_record d).tag ≡ negsuc 0) × ((own_record d).group ≡ negsuc 0)
unfolding own_record
own-tag d = go d.pick
  where
    go : (o : Option (List Case)) → ((first_record (records_for d.name d.fields o)).tag ≡ negsuc 0) × ((first_record (records_for d.name d.fields o)).group ≡ negsuc 0)
    go None = (refl, refl)
    go (Some ks) = (refl, refl)

own-shape : (s : Bytes) (r : ℕ) → (own_record (decl_at s r)).shape ≡ shape_at s r
unfolding own_record shape_at
own-shape s r = go (decl_at s r).pick
  where
    go : (o : Option (List Case)) → (first_record (records_for (decl_at s r).name (decl_at s r).fields o)).shape ≡ first_shape (records_for (decl_at s r).name (decl_at s r).fields o)
    go None = refl
    go (Some ks) = refl

own-fields-none : (d : AdtDecl) → d.pick ≡ None → (own_record d).fields ≡ (place 0 d.fields).placed
unfolding own_record
own-fields-none d e = rw e

own-fields-some : (d : AdtDecl) (ks : List Case) → d.pick ≡ Some ks → (own_record d).fields ≡ (place 4 d.fields).placed
unfolding own_record
own-fields-some d ks e = rw e

-- ---- an entry's record by its case

module _ (s t : Bytes) (i : ℕ) where
  plain-is : (entry_at t i).case ≡ 0 → recorded_at s t i ≡ own_record (decl_at s (entry_at t i).line)
  unfolding recorded_at
  plain-is e = ap (λ (c : ℕ). record_in (decl_at s (entry_at t i).line) c (entry_at t i).position (entry_at t i).number) e

  variant_is : ((entry_at t i).case ≡ 0 → ⊥) → recorded_at s t i ≡ variant_record (decl_at s (entry_at t i).line) ((entry_at t i).case - 1) (entry_at t i).position (entry_at t i).number
  unfolding recorded_at
  variant_is n = go (entry_at t i).case n
    where
      go : (c : ℕ) → (c ≡ 0 → ⊥) → record_in (decl_at s (entry_at t i).line) c (entry_at t i).position (entry_at t i).number ≡ variant_record (decl_at s (entry_at t i).line) (c - 1) (entry_at t i).position (entry_at t i).number
      go zero m = absurd (m refl)
      go (suc c) m = let z : suc c - 1 ≡ c = omega arith in rw z

  -- TAG and GROUP
  pub tag-plain : {c : ℕ} → c ≡ (entry_at t i).case → c ≡ 0 → bytes ",-1,-1" ≡ tag_text (recorded_at s t i)
  unfolding tag_text decimalℤ decimal
  tag-plain h e =
      let w = own-tag (decl_at s (entry_at t i).line) in
      rw (plain-is (sym h ∙ e), w.0, w.1)

  pub tag-variant : {c k : ℕ} → c ≡ (entry_at t i).case → (c ≡ 0 → ⊥) → k ≡ (entry_at t i).number → (44 ∷ decimal k) ++ (44 ∷ decimal (c - 1)) ≡ tag_text (recorded_at s t i)
  unfolding tag_text decimalℤ variant_record
  tag-variant h n e = rw (variant_is (λ z. n (h ∙ z)), h, e)

-- ---- size and pointers

module _ (s t : Bytes) (i : ℕ) (l : EntryIn s t i) where
  module _ {r c : ℕ} (hr : r ≡ (entry_at t i).line) (hc : c ≡ (entry_at t i).case) where
    pub line-is : RecordLine s r
    line-is = rw hr (entry-line s t i l)

    pub shape-plain : c ≡ 0 → (recorded_at s t i).shape ≡ shape_at s r
    shape-plain e = ap (λ (x : Recorded). x.shape) (plain-is s t i (sym hc ∙ e)) ∙ own-shape s (entry_at t i).line ∙ rw hr

    module _ (e : c ≡ 0 → ⊥) where
      positive : 0 < (entry_at t i).case
      positive = omega (arith, hc, e)

      pub variant-line : VariantLine s r (c - 1)
      variant-line = rw (hr, hc) (entry-variant s t i l positive)

      pub shape-variant : (recorded_at s t i).shape ≡ variant_at s r (c - 1)
      unfolding variant_record variant_at cases_at
      shape-variant = ap (λ (x : Recorded). x.shape) (variant_is s t i (λ z. e (hc ∙ z))) ∙ rw (hr, hc)

-- ---- the size is small

entry-small : (s t : Bytes) (i : ℕ) → LogEntry s t i → (recorded_at s t i).shape.size ≤ 131080
unfolding log_of
entry-small s t i l =
    let g = l.log in
    rw (g.each i l.low) (every-at (SizeAtMost 131080) (log_of s) (checked-records-bound s g.checked) no_record i (omega (arith, g.count, l.low)))

pub sized : (s t : Bytes) (i : ℕ) → LogEntry s t i → {x : ℕ} → x ≡ (recorded_at s t i).shape.size → (x ≡ (recorded_at s t i).shape.size) × (x ≤ 131080)
sized s t i l e = (e, omega (arith, e, entry-small s t i l))

-- ---- fields

module _ (s t : Bytes) (i : ℕ) (l : EntryIn s t i) {r : ℕ} (hr : r ≡ (entry_at t i).line) where
  r-line : RecordLine s r
  r-line = rw hr (entry-line s t i l)

  r-in : r - 1 < lines_in s
  r-in = let q = r-line in omega (arith, q.first, q.last)

  case-none : cases_in (decl_at s r) ≡ [] → (entry_at t i).case ≡ 0
  case-none z = go (entry_at t i).case refl
    where
      go : (c : ℕ) → (entry_at t i).case ≡ c → c ≡ 0
      go zero e = refl
      go (suc c) e = let w = l.sound.case c e in absurd (omega (arith, rw (← hr, z) at w))

  pub fields-adt : form_at s (r - 1) ≡ 26 → field_rows 0 (common_fields s r) ≡ placed_rows (recorded_at s t i).fields
  unfolding decl_at field_rows
  fields-adt e =
      let q = adt-decl s l.checked (r - 1) r-in e in
      let p : (decl_at s r).pick ≡ None = ap (λ (ds : List AdtDecl). (first_decl ds).pick) q in
      let z : cases_in (decl_at s r) ≡ [] = ap (λ (ds : List AdtDecl). cases_in (first_decl ds)) q in
      let w : recorded_at s t i ≡ own_record (decl_at s r) = plain-is s t i (case-none z) ∙ ap (λ (x : ℕ). own_record (decl_at s x)) (sym hr) in
      sym (ap (λ (x : Recorded). placed_rows x.fields) w ∙ ap placed_rows (own-fields-none (decl_at s r) p))

  module _ (a : form_at s (r - 1) ≡ 26 → ⊥) where
    form-27 : form_at s (r - 1) ≡ 27
    form-27 = ⊎_elim (λ (e : form_at s (r - 1) ≡ 26). absurd (a e)) (λ (e : form_at s (r - 1) ≡ 27). e) (record-form s r r-line)

    pub fields-plain : {c : ℕ} → c ≡ (entry_at t i).case → c ≡ 0 → field_rows 4 (common_fields s r) ≡ placed_rows (recorded_at s t i).fields
    unfolding decl_at field_rows
    fields-plain hc e =
        let p = ap (λ (ds : List AdtDecl). (first_decl ds).pick) (pick-decl s l.checked (r - 1) r-in form-27) in
        let w : recorded_at s t i ≡ own_record (decl_at s r) = plain-is s t i (sym hc ∙ e) ∙ ap (λ (x : ℕ). own_record (decl_at s x)) (sym hr) in
        sym (ap (λ (x : Recorded). placed_rows x.fields) w ∙ ap placed_rows (own-fields-some (decl_at s r) _ p))

  pub fields-variant : {c : ℕ} → c ≡ (entry_at t i).case → (c ≡ 0 → ⊥) → (v : ℕ) → CaseOf s r (c - 1) v → {end : ℕ} → end ≡ (place 4 (common_fields s r)).end
      → field_rows 4 (common_fields s r) ++ field_rows end (case_fields s v) ≡ placed_rows (recorded_at s t i).fields
  unfolding variant_record case_at field_rows
  fields-variant {c} hc e v x y =
      let k : case_fields s v ≡ (case_in (decl_at s r) (c - 1)).fields = ap (λ (y : Case). y.fields) (case-is x) in
      let z : (recorded_at s t i).fields ≡ variant_fields (decl_at s r).fields (case_in (decl_at s r) (c - 1)) = ap (λ (m : Recorded). m.fields) (variant_is s t i (λ z. e (hc ∙ z))) ∙ rw (← hr, ← hc) in
      sym (ap placed_rows z
      ∙ placed-append (place 4 (common_fields s r)).placed (place (place 4 (common_fields s r)).end (case_in (decl_at s r) (c - 1)).fields).placed
      ∙ rw (k, y))

-- ---- the row

-- SIZE and MAP
pub shape-text : (h : Shape) (u : Bytes) (size k end : ℕ) → size ≡ h.size → Mapped u size h.pointers → k ≡ map_length size → end ≡ 49152 + k
    → ((44 ∷ decimal size) ++ (44 ∷ hex_of (take (end - 49152) (drop 49152 u)))) ++ (10 ∷ []) ≡ shape_text h
unfolding shape_text map_in
shape-text h u size k end e m hk he =
    let z : end - 49152 ≡ map_length size = omega arith in
    rw (z, m.bytes, e)

six-fields : (c k t g z h : Bytes) → ((c ++ (44 ∷ k)) ++ ((44 ∷ t) ++ (44 ∷ g))) ++ (((44 ∷ z) ++ (44 ∷ h)) ++ (10 ∷ []))
    ≡ c ++ (44 ∷ (k ++ (44 ∷ (t ++ (44 ∷ (g ++ (44 ∷ (z ++ (44 ∷ (h ++ (10 ∷ [])))))))))))
six-fields c k t g z h =
    let shape = ((44 ∷ z) ++ (44 ∷ h)) ++ (10 ∷ []) in
    append_assoc (c ++ (44 ∷ k)) ((44 ∷ t) ++ (44 ∷ g)) shape ∙ append_assoc c (44 ∷ k) (((44 ∷ t) ++ (44 ∷ g)) ++ shape)
    ∙ ap (λ (x : Bytes). c ++ (44 ∷ (k ++ x))) (append_assoc (44 ∷ t) (44 ∷ g) shape ∙ ap (λ (x : Bytes). 44 ∷ (t ++ (44 ∷ (g ++ x)))) (append_assoc (44 ∷ z) (44 ∷ h) (10 ∷ [])))

pub record-text : (r : Recorded) → (rec_text r ++ shape_text r.shape) ++ placed_rows r.fields ≡ record_rows r
unfolding rec_text tag_text shape_text placed_rows record_rows row
record-text r =
    ap (λ (x : Bytes). x ++ concat_map field_row r.fields)
    (six-fields (bytes "rec") r.key (decimalℤ r.tag) (decimalℤ r.group) (decimal r.shape.size) (hex_of (map_of r.shape)))

pub key-plain : (s t : Bytes) (i : ℕ) {x : Bytes} → x ≡ name_of s (entry_at t i) → {c : ℕ} → c ≡ (entry_at t i).case → c ≡ 0 → 44 ∷ x ≡ 44 ∷ (recorded_at s t i).key
key-plain s t i e h z = rw (plain-key s t i (sym h ∙ z), e)

pub key-variant : (s t : Bytes) (i : ℕ) {x y : Bytes} → x ≡ name_of s (entry_at t i) → {c : ℕ} → c ≡ (entry_at t i).case → (c ≡ 0 → ⊥) → y ≡ tag_of s (entry_at t i) → ((44 ∷ x) ++ (46 ∷ [])) ++ y ≡ 44 ∷ (recorded_at s t i).key
key-variant s t i {x} {y} e h z f = rw (variant-key s t i (λ q. z (h ∙ q)), e, f) (append_assoc (44 ∷ name_of s (entry_at t i)) (46 ∷ []) (tag_of s (entry_at t i)))

pub head-text : (r : Recorded) {u v w x : Writer} → Writes u (bytes "rec") v → Writes v (44 ∷ r.key) w → Writes w (tag_text r) x → Writes u (rec_text r) x
unfolding rec_text
head-text r a b c = writes_then (writes_then a b) c
