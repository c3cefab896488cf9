-- The rows together are the listing, and what compiling gives by each answer.
use mathlib.Core.Path.{◌≡◌, sym, ap, ◌∙◌, subst}
use mathlib.Core.List.{◌++◌, append_assoc}
use Rattle.std.specs.Prelude.{None, Some, Result, Ok, Err}
use Prim.Native.Nat.{ℕ, ◌≤◌, ◌<◌}
use native.Mathlib.Omega.{arith}
use lib.Seq.{take-append_seam}
use lib.ListN.{length}
use borrow.Author.Tests.{lt-ltb, le-ltb}
use Rattle.semantics.specs.Text.{Bytes}
use Rattle.semantics.specs.Sheet.{sheet_source, concat_map}
use Rattle.semantics.specs.Fold.{Names}
use Rattle.semantics.specs.Const.{constants, names_of}
use Rattle.semantics.specs.Global.{laid_vars, vars_refused}
use Rattle.semantics.specs.Types.{id_of, descriptors}
use Rattle.semantics.specs.Listing.{pend_row, item_row, type_rows, use_row, listing}
use Rattle.semantics.specs.Refusal.{Outcome, refused, zeros, worked, source_globals, source_listing}
use Rattle.write.specs.declared.Writer.{Writer}
use Rattle.write.specs.Wrote.{Wrote}
use Rattle.write.specs.Writes.{Writes}
use Rattle.write.proofs.Wrote.{on-zeros}
use Rattle.write.proofs.Writes.{writes_as, writes_then}
use Rattle.checks.specs.Checks.{Checked}
use Rattle.names.specs.Table.{names_in}
use Rattle.answers.specs.declared.Refusal.{Refusal}
use Rattle.answers.specs.Answers.{refusal_number, refusal_line, refusal_of}
use Rattle.pends.specs.Pends.{AllPended}
use Rattle.tables.specs.declared.Tables.{Tables}
use Rattle.tables.specs.Tables.{MakesTables}
use Rattle.compile.specs.declared.Listed.{Listed}
use Rattle.lines.specs.Lines.{Indexed}
use Rattle.compile.specs.Compile.{ListingStands, Tries, TableStands}
use Rattle.parts.proofs.Laws.{names-are}
use Rattle.parts.specs.Parts.{declared_text, types_text, Listable}

three-last : (a b c d : Bytes) → a ++ ((b ++ c) ++ d) ≡ ((a ++ b) ++ c) ++ d
three-last a b c d = sym (append_assoc a (b ++ c) d) ∙ ap (λ (l : Bytes). l ++ d) (sym (append_assoc a b c))

module _ {s t : Bytes} {x : Tables} (k : Listable s t x) where
  -- the pending names' rows, where no line is refused
  pub pends-written : (v w : Writer) → AllPended (names_in s t x.consts) s v (Ok tt) w
      → (vars_refused (names_of (sheet_source s)) (laid_vars (sheet_source s)) ≡ None) × Writes v (concat_map pend_row (source_globals (sheet_source s)).pends) w
  pends-written v w h = subst (λ (ns : Names). AllPended ns s v (Ok tt) w) (names-are k) h

  pub pends-refused : (v w : Writer) (r : Refusal) → AllPended (names_in s t x.consts) s v (Err r) w → vars_refused (names_of (sheet_source s)) (laid_vars (sheet_source s)) ≡ Some (refusal_of r)
  pends-refused v w r h = (subst (λ (ns : Names). AllPended ns s v (Err r) w) (names-are k) h).0

  -- all rows
  pub listing-rows : {v0 v1 v2 v3 : Writer} → Writes v0 (declared_text s) v1 → Writes v1 (concat_map pend_row (source_globals (sheet_source s)).pends) v2 → Writes v2 (types_text s) v3
      → Writes v0 (source_listing (sheet_source s)) v3
  unfolding declared_text types_text listing
  listing-rows a b c =
      let i = (source_globals (sheet_source s)).items in
      let h = declared_text s ++ concat_map pend_row (source_globals (sheet_source s)).pends in
      writes_as (three-last h (concat_map (item_row (id_of (sheet_source s) i)) i) (type_rows 0 (descriptors (sheet_source s) i)) (concat_map (use_row (id_of (sheet_source s) i)) (sheet_source s).needs)) (writes_then (writes_then a b) c)

  -- ---- outcomes

  module _ {d f g : Bytes} {r : ℕ} (L : ℕ) (z : d ≡ zeros (length d)) (l : length d ≡ L) (same : g ≡ f)
      (v : vars_refused (names_of (sheet_source s)) (laid_vars (sheet_source s)) ≡ None) (wrote : Wrote d 0 (source_listing (sheet_source s)) f r)
    where
      whole : Wrote (zeros L) 0 (source_listing (sheet_source s)) g r
      whole = subst (λ (y : Bytes). Wrote y 0 (source_listing (sheet_source s)) g r) (z ∙ ap zeros l) (rw (← same) at wrote)

      pub lays : {end : ℕ} → r ≤ L → end ≡ x.end → Checked s → ListingStands s (worked L (sheet_source s)) L r end g
      lays h e y =
          let o = (on-zeros whole).0 h in
          record {
            outcome = rw (k.folded, v, le-ltb L (length (source_listing (sheet_source s))) (omega (arith, o.0)));
            long = o.0;
            room = h;
            bytes = o.1;
            ends = e ∙ k.held.globals.end (names_of (sheet_source s));
            checked = y;
          }

      pub outgrows : L < r → worked L (sheet_source s) ≡ refused 13 0
      outgrows h = rw (k.folded, v, lt-ltb L (length (source_listing (sheet_source s))) ((on-zeros whole).1 h))

  pub value-refused : (L : ℕ) (r : Refusal) → vars_refused (names_of (sheet_source s)) (laid_vars (sheet_source s)) ≡ Some (refusal_of r) → worked L (sheet_source s) ≡ refused (refusal_number r) (refusal_line r)
  value-refused L r e = rw (k.folded, e)

-- ---- tables, or a constant that is refused

pub tables-listable : (s t : Bytes) (x : Tables) → MakesTables s t (Ok x) → Listable s t x
tables-listable s t x w = record { held = w.0; folded = w.1; log = w.2 }

pub constant-refused : (s : Bytes) (L : ℕ) (r : Refusal) → (constants (sheet_source s)).refused ≡ Some (refusal_of r) → worked L (sheet_source s) ≡ refused (refusal_number r) (refusal_line r)
constant-refused s L r e = rw e

-- such a refusal is 8, at its line
pub constant-long : (s t : Bytes) (L : ℕ) (r : Refusal) → MakesTables s t (Err r) → worked L (sheet_source s) ≡ refused 8 (refusal_line r)
constant-long s t L r h = constant-refused s L r h.0 ∙ ap (λ (q : ℕ). refused q (refusal_line r)) h.1

-- the same outcome
pub tries-as : (s : Bytes) {o p : Outcome} (L : ℕ) (r : Result Listed Refusal) (d : Bytes) → o ≡ p → Tries s o L r d → Tries s p L r d
tries-as s L r d e h = subst (λ q. Tries s q L r d) e h

-- the table that a check made, in front of the rest of the working space
pub table-stands : (s : Bytes) (W : ℕ) (t v : Bytes) {n : ℕ} (r : Result Listed Refusal) → Indexed s t n → 65536 ≤ W → TableStands s W (t ++ v) r
table-stands s W t v {n} (Ok x) i h = record { work = h; lines = n; table = rw (← i.long) (rw (take-append_seam t v) i) }
table-stands s W t v (Err r) i h = tt
