-- Rows written one behind the other: frames, and the keys of needs.
use mathlib.Core.Path.{◌≡◌, refl, ap, ◌∙◌}
use mathlib.Core.Bool.{Bool, true, false, cond}
use mathlib.Core.List.{List, [], ◌∷◌, ◌++◌, append-nil, map-append}
use Prim.Native.Nat.{ℕ, suc, ◌+◌, ◌<◌}
use native.Mathlib.Omega.{arith}
use native.Mathlib.Numerals.{add-one}
use lib.ListN.{length, take, drop, get_or, length-append, take-append-drop}
use lib.Seq.{take-suc, get_or-take, length-take-le}
use Rattle.semantics.specs.Text.{any}
use Rattle.semantics.specs.Tree.{Shape, TypeKey}
use Rattle.semantics.specs.Tree.TypeKey.{opaque_key}
use Rattle.semantics.specs.Sheet.{sheet_source}
use Rattle.semantics.specs.Types.{same_type_key, distinct, position, key_shape}
use Rattle.semantics.specs.Listing.{type_rows}
use Rattle.write.specs.declared.Writer.{Writer}
use Rattle.write.proofs.Writes.{writes_none}
use Rattle.checks.specs.Checks.{Kept}
use Rattle.checks.proofs.Kept.{kept-all, kept_then, kept_less, kept_at}
use Rattle.records.specs.Log.{log_of}
use Rattle.records.proofs.Kept.{logged-kept}
use Rattle.type_lines.specs.Needs.{need_at}
use Rattle.type_keys.specs.Table.{need_line_of, need_position_of}
use Rattle.type_keys.proofs.Distinct.{new_key, position-none, position-low, position-more, distinct_more, key-member, known_more}
use Rattle.type_row.specs.Row.{TypesWrote}
use Rattle.type_rows.specs.Rows.{keys_to, shapes_of, TypeTables}
use Rattle.type_row.proofs.Rows.{rows_then}

pub types-none : {a : ℕ} {w : Writer} {t : List ℕ} → TypesWrote [] a a w w t t
unfolding type_rows
types-none {a} {w} = record { wrote = writes_none w w.room; id = omega arith; kept = kept-all }

pub types-then : (xs ys : List Shape) {a b c : ℕ} {u v w : Writer} {t1 t2 t3 : List ℕ} → TypesWrote xs a b u v t1 t2 → TypesWrote ys b c v w t2 t3 → TypesWrote (xs ++ ys) a c u w t1 t3
types-then xs ys {a} {b} x y = record {
  wrote = rows_then a xs ys b x.id x.wrote y.wrote;
  id = omega (arith, x.id, y.id, length-append xs ys);
  kept = kept_then x.kept y.kept;
}

-- ---- needs

-- a store behind the tables leaves them
pub ready-kept : {s t u : List ℕ} {entries : ℕ} → Kept 49152 t u → TypeTables s t entries → TypeTables s u entries
unfolding need_line_of need_position_of
ready-kept {s} {t} {u} k x =
    let at : (j : ℕ) → j < 49152 → get_or u j 0 ≡ get_or t j 0 = λ j h. kept_at k j h in
    let low : (q : ℕ) → q < length (sheet_source s).needs → q < 128 = λ q h. omega (arith, x.table.few) in
    let line : (q : ℕ) → q < length (sheet_source s).needs → need_line_of u q ≡ need_line_of t q = λ q h. rw (at (10240 + q) (omega (arith, low q h)), at (10368 + q) (omega (arith, low q h))) in
    record {
      log = logged-kept (kept_less (omega arith) k) x.log;
      table = record {
        few = x.table.few;
        within = λ q h. rw (line q h) (x.table.within q h);
        kind = λ q h. rw (line q h) (x.table.kind q h);
        key = λ q h. rw (line q h) (x.table.key q h);
        position = λ q h. at (10496 + q) (omega (arith, low q h)) ∙ x.table.position q h;
      };
    }

module _ (s t : List ℕ) (entries : ℕ) (x : TypeTables s t entries) (q : ℕ) (low : q < length (sheet_source s).needs) where
  one_more : take (q + 1) (sheet_source s).needs ≡ take q (sheet_source s).needs ++ (get_or (sheet_source s).needs q opaque_key ∷ [])
  one_more = rw (add-one q) (take-suc (sheet_source s).needs q opaque_key low)

  keys-more : keys_to s (q + 1) ≡ keys_to s q ++ new_key (get_or (sheet_source s).needs q opaque_key) (keys_to s q)
  keys-more = ap (distinct []) one_more ∙ distinct_more (get_or (sheet_source s).needs q opaque_key) (take q (sheet_source s).needs)

  -- its position is that among the keys before
  pub position-is : need_position_of t q ≡ position (get_or (sheet_source s).needs q opaque_key) (keys_to s q)
  position-is =
      let y = get_or (sheet_source s).needs q opaque_key in
      let l = take (q + 1) (sheet_source s).needs in
      let g : get_or l q opaque_key ≡ y = get_or-take (q + 1) (sheet_source s).needs q opaque_key (omega arith) in
      let long : q < length l = omega (arith, length-take-le (q + 1) (sheet_source s).needs (omega (arith, low))) in
      let a : any (same_type_key y) (distinct [] l) ≡ true = rw g at (key-member opaque_key l q long) in
      let e : position y (distinct [] (sheet_source s).needs) ≡ position y (distinct [] l) = rw (take-append-drop (q + 1) (sheet_source s).needs) at (known_more y l (drop (q + 1) (sheet_source s).needs) a).1 in
      x.table.position q low ∙ e ∙ ap (position y) keys-more ∙ position-more y (keys_to s q)

  module _ (base id : ℕ) (hid : id ≡ base + length (keys_to s q)) where
    pub keys-stay : (base + need_position_of t q ≡ id → ⊥) → keys_to s (q + 1) ≡ keys_to s q
    keys-stay ne = keys-more ∙ go (any (same_type_key (get_or (sheet_source s).needs q opaque_key)) (keys_to s q)) refl
      where
        go : (b : Bool) → any (same_type_key (get_or (sheet_source s).needs q opaque_key)) (keys_to s q) ≡ b → keys_to s q ++ cond b [] (get_or (sheet_source s).needs q opaque_key ∷ []) ≡ keys_to s q
        go true e = append-nil (keys_to s q)
        go false e = absurd (ne (omega (arith, position-is, hid, position-none (get_or (sheet_source s).needs q opaque_key) (keys_to s q) e)))

    pub keys-next : base + need_position_of t q ≡ id → keys_to s (q + 1) ≡ keys_to s q ++ (need_at s (need_line_of t q) ∷ [])
    keys-next eq = keys-more ∙ rw (x.table.key q low) (go (any (same_type_key (get_or (sheet_source s).needs q opaque_key)) (keys_to s q)) refl)
      where
        go : (b : Bool) → any (same_type_key (get_or (sheet_source s).needs q opaque_key)) (keys_to s q) ≡ b → keys_to s q ++ cond b [] (get_or (sheet_source s).needs q opaque_key ∷ []) ≡ keys_to s q ++ (get_or (sheet_source s).needs q opaque_key ∷ [])
        go true e = absurd (omega (arith, position-is, hid, position-low (get_or (sheet_source s).needs q opaque_key) (keys_to s q) e))
        go false e = refl

-- one more key's row
pub keys-then : (s : List ℕ) (l : List TypeKey) (y : TypeKey) {a b c : ℕ} {u v w : Writer} {t1 t2 t3 : List ℕ} → TypesWrote (shapes_of s l) a b u v t1 t2 → TypesWrote (key_shape (log_of s) y ∷ []) b c v w t2 t3 → TypesWrote (shapes_of s (l ++ (y ∷ []))) a c u w t1 t3
keys-then s l y p q = rw (map-append (key_shape (log_of s)) l (y ∷ [])) (types-then (shapes_of s l) (key_shape (log_of s) y ∷ []) p q)

pub shapes-length : (s : List ℕ) (l : List TypeKey) → length (shapes_of s l) ≡ length l
shapes-length s [] = refl
shapes-length s (y ∷ l) = ap suc (shapes-length s l)
