-- `use` rows, need by need.
use mathlib.Core.Path.{◌≡◌, sym}
use mathlib.Core.List.{List, [], ◌∷◌}
use Prim.Native.Nat.{ℕ, ◌+◌, ◌≤◌, ◌<◌}
use native.Mathlib.Numerals.{add-one}
use lib.ListN.{length, take, get_or}
use lib.Seq.{take-suc, take_all}
use Rattle.semantics.specs.Text.{bytes, decimal}
use Rattle.semantics.specs.Tree.{TypeKey}
use Rattle.semantics.specs.Tree.TypeKey.{opaque_key}
use Rattle.semantics.specs.Sheet.{concat_map}
use Rattle.semantics.specs.Listing.{row, use_row}
use Rattle.rows.proofs.Rows.{concat-more}
use Rattle.write.specs.declared.Writer.{Writer}
use Rattle.write.specs.Writes.{Writes}
use Rattle.write.proofs.Writes.{writes_as, writes_then}

module _ (id : TypeKey → ℕ) (ks : List TypeKey) {u v : Writer} where
  pub uses-next : (q n : ℕ) → q < length ks → n ≡ id (get_or ks q opaque_key) → {w : Writer} → Writes u (concat_map (use_row id) (take q ks)) v
      → Writes v (row (bytes "use" ∷ decimal n ∷ [])) w → Writes u (concat_map (use_row id) (take (q + 1) ks)) w
  unfolding use_row
  uses-next q n h e x y =
      rw (add-one q, take-suc ks q opaque_key h) (writes_as (sym (concat-more (use_row id) (take q ks) (get_or ks q opaque_key))) (writes_then x (rw e at y)))

  pub uses-end : (q : ℕ) → length ks ≤ q → Writes u (concat_map (use_row id) (take q ks)) v → Writes u (concat_map (use_row id) ks) v
  uses-end q h x = rw (take_all q ks h) at x
