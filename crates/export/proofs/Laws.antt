-- Answers as numbers.
use Rattle.std.specs.Prelude.{Ok, Err}
use Prim.Native.Nat.{ℕ, ◌-◌}
use mathlib.Core.Path.{◌≡◌, sym, ap, subst, ◌∙◌}
use native.Mathlib.Omega.{arith}
use lib.ListN.{length, drop, length-drop}
use lib.Seq.{length-take-le}
use borrow.Author.Tests.{ne_eqb}
use Rattle.semantics.specs.Text.{Bytes, field_of}
use Rattle.semantics.specs.Refusal.{Buffers, compiled, zeros}
use Rattle.text.specs.Parts.{StandsAt}
use Rattle.answers.specs.declared.Refusal.{Refusal}
use Rattle.answers.specs.declared.Refusal.TheVariants.{LongSheet, SmallSpace, NoForm, BadReference, DeepNesting, BadModule, TooMany, LongString, LongAlloc, NegativeAlloc, OutsideLiteral, LongLiteral, Outgrown}
use Rattle.answers.specs.Answers.{refusal_number, refusal_line}
use Rattle.compile.specs.Compile.{Compiles}
use Rattle.image.specs.declared.Laid as Image
use Rattle.image.specs.Image.{Pictures}
use Rattle.export.specs.Export.{CompilesForC, ImagesForC, compiled_numbers, laid_numbers}

-- a field has as many bytes as lie between its start and its end
pub field-length : (s : Bytes) (n i a e : ℕ) → StandsAt s n i a e → e - a ≡ length (field_of s n i)
field-length s n i a e h = sym (length-take-le (e - a) (drop a s) (omega (arith, h.ordered, h.within, length-drop a s))) ∙ ap length h.view

-- no refusal has the number 0
never-0 : (r : Refusal) → refusal_number r ≡ 0 → ⊥
never-0 LongSheet e = omega arith
never-0 SmallSpace e = omega arith
never-0 (NoForm k) e = omega arith
never-0 (BadReference k) e = omega arith
never-0 (DeepNesting k) e = omega arith
never-0 (BadModule k) e = omega arith
never-0 (TooMany k) e = omega arith
never-0 (LongString k) e = omega arith
never-0 (LongAlloc k) e = omega arith
never-0 (NegativeAlloc k) e = omega arith
never-0 (OutsideLiteral k) e = omega arith
never-0 (LongLiteral k) e = omega arith
never-0 Outgrown e = omega arith

-- ---- compiling

module _ (s : Bytes) (L W : ℕ) (d u : Bytes) where
  pub listed-as : {n : ℕ} → length d ≡ L → Compiles s L W (Ok n) d u → CompilesForC s L W (record { number = 0; line = 0; listing = n }) d u
  listed-as {n} len h = record {
    answer = ap (λ (m : ℕ). record { number = 0; line = 0; listing = m }) (sym (length-take-le n d (omega (arith, h.within)))) ∙ ap compiled_numbers h.answer;
    outcome = h.answer;
    within = h.within;
    listing_is = h.listing_is;
    work_is = h.work_is;
  }

  pub refused_as : (r : Refusal) {q k : ℕ} → q ≡ refusal_number r → k ≡ refusal_line r → Compiles s L W (Err r) d u → CompilesForC s L W (record { number = q; line = k; listing = 0 }) d u
  refused_as r e f h = rw (e, f) (record {
    answer = ap compiled_numbers h.answer;
    outcome = rw (ne_eqb (refusal_number r) 0 (never-0 r)) h.answer;
    within = omega arith;
    listing_is = h.listing_is;
    work_is = h.work_is;
  })

-- ---- the image

module _ (s : Bytes) (b : Buffers) (listing image area work : Bytes) where
  pub laid_as : (x : Image.Laid) → length image ≡ b.image → length area ≡ b.area → Pictures s b (Ok x) listing image area → work ≡ zeros b.work
      → ImagesForC s b (record { number = 0; line = 0; listing = x.listing; image = x.image; area = x.area }) listing image area work
  laid_as x hi ha h z = record {
    answer = rw (← h.answer, ← h.lengths.0, length-take-le x.image image (omega (arith, h.lengths.2)), length-take-le x.area area (omega (arith, h.lengths.3)));
    outcome = h.answer;
    within = (h.lengths.1, h.lengths.2, h.lengths.3);
    listing_is = h.listing_is;
    image_is = h.image_is;
    area_is = h.area_is;
    work_is = z;
    demand = λ _. h.demand;
  }

  pub not-laid-as : (r : Refusal) {q k : ℕ} → q ≡ refusal_number r → k ≡ refusal_line r → Pictures s b (Err r) listing image area → work ≡ zeros b.work
      → ImagesForC s b (record { number = q; line = k; listing = 0; image = 0; area = 0 }) listing image area work
  not-laid-as r e f h z = rw (e, f) (record {
    answer = ap (laid_numbers (compiled b.listing b.work s)) h.answer;
    outcome = rw (ne_eqb (refusal_number r) 0 (never-0 r)) h.answer;
    within = (omega arith, omega arith, omega arith);
    listing_is = h.listing_is;
    image_is = h.image_is;
    area_is = h.area_is;
    work_is = z;
    demand = λ e. absurd (never-0 r e);
  })
