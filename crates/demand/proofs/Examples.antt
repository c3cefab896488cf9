-- Demand 3 on examples, by computation: it holds of two sheets' images, and not of wrong ones.
use Prim.Native.Nat.{ℕ, zero, suc, ◌-◌}
use native.Mathlib.Omega.{arith}
use mathlib.Core.Path.{◌≡◌, refl}
use mathlib.Core.Bool.{Bool, true, false, ◌&&◌}
use mathlib.Core.List.{List, [], ◌∷◌, ◌++◌, map}
use lib.ListN.{length, take, drop, replicate}
use Rattle.semantics.specs.Open.{computed}
use Rattle.semantics.specs.Text.{Bytes, bytes, same}
use Rattle.semantics.specs.Sheet.{Source, sheet_source}
use Rattle.semantics.specs.Image.{memory_of}
use Rattle.semantics.specs.Refusal.{program_buffers, source_globals}
use Rattle.semantics.specs.Demand.{source_declared, names_distinct, kinds_fit, laid_of, image_end, area_end, image_byte, area_byte, EveryByte, WholeImage}
use Rattle.demand.proofs.Theorem.{demand}

-- f from 0 to n − 1
abbrev tabulated : ℕ → ℕ → (ℕ → ℕ) → Bytes
tabulated zero p f = []
tabulated (suc n) p f = f p ∷ tabulated n (suc p) f

-- whether image and area are, byte by byte and in length, those that the claim gives declarations
abbrev agree : Source → Bytes → Bytes → Bool
agree s image area = let l = laid_of s in same image (tabulated (image_end 0 l) 0 (image_byte l)) && same area (tabulated (area_end 0 l) 0 (area_byte l))

abbrev premises : Source → Bool
premises s = names_distinct (source_declared s) && kinds_fit (source_declared s)

-- 01's round sheet: the array's handle, and its elements 7, 0, 0
abbrev round : Bytes
round = bytes "impl,Round\nty,string\nty,big\nfd,2,1,tag\nfd,3,1,at\nadt,Scan,2,4,5\nex,int,3\ncon,KEEP,1,1,7\nex,id,KEEP\nex,int,7\nel,next,10\nty,int\nex,lit,9,12,1,11\nty,int\nty,array,14\nvar,15,13,1,a\nneed,adt,Scan\n"

round-found : EveryByte (sheet_source round) (0 ∷ 0 ∷ 0 ∷ 1 ∷ []) (0 ∷ 0 ∷ 0 ∷ 7 ∷ replicate 8 0)
unfolding computed
round-found = (demand program_buffers round (0 ∷ 0 ∷ 0 ∷ 1 ∷ []) (0 ∷ 0 ∷ 0 ∷ 7 ∷ replicate 8 0) refl).every_byte refl refl

-- a byte array of 3, an int, a string for two names, an array of 3 strings the second of which is a number, a big, an `alloc`,
-- an array of bigs with a wildcard, a real
abbrev many : Source
many = sheet_source (bytes "ty,byte\nty,array,1\nex,int,300\nel,next,3\nex,int,-1\nel,next,5\nex,int,7\nel,next,7\nex,lit,0,0,3,4,6,8\nvar,2,9,1,a\nty,int\nex,int,-2\nvar,11,12,2,b,nil\nty,string\nex,str,4142\nvar,14,15,2,s,t\nty,string\nty,array,17\nex,str,43\nel,next,19\nex,int,5\nel,next,21\nex,str,44\nel,next,23\nex,lit,0,0,3,20,22,24\nvar,18,25,1,u\nty,big\nex,int,-3\nvar,27,28,1,c\nty,int\nty,array,30\nex,int,5\nty,int\nex,alloc,32,33\nvar,31,34,1,d\nty,big\nty,array,36\nex,int,9\nel,star,38\nex,int,8\nse,40,0\nex,int,3\nex,int,2\nel,at,43,1,41\nex,int,10\nex,lit,45,0,2,39,44\nvar,37,46,1,e\nty,real\nex,real,4000000000000000\nvar,48,49,1,f\n")

-- a at 0, b 4, s 8, t 12, u 16, c 24, d 32, e 36, f 40
abbrev image : Bytes
image = (memory_of (source_globals many)).image

-- parts at 0 (3 bytes), 8 (12), 24 (20), 48 (80)
abbrev area : Bytes
area = (memory_of (source_globals many)).area

pub record Trial : Type 0 where
  pub image : Bytes
  pub area : Bytes
  pub right : Bool

abbrev trial : Bytes → Bytes → Bool → Trial
trial im ar b = record { image = im; area = ar; right = b }

abbrev trials : List Trial
trials =
    trial image area true
    -- an image of zeros, and one that ends early
    ∷ trial (replicate (length image) 0) area false
    ∷ trial (take 40 image) area false
    -- one global's bytes in the place of the next
    ∷ trial (take 4 image ++ take 4 image ++ drop 8 image) area false
    -- an area of zeros, and one where the second array is skipped
    ∷ trial image (replicate (length area) 0) false
    ∷ trial image (take 8 area ++ replicate 12 0 ++ drop 20 area) false
    -- the handles of two strings of the second array exchanged
    ∷ trial image (take 8 area ++ take 4 (drop 16 area) ++ replicate 4 0 ++ take 4 (drop 8 area) ++ drop 20 area) false
    -- elements of the last array one place too late
    ∷ trial image (take 48 area ++ replicate 8 0 ++ take 72 (drop 48 area)) false
    ∷ []

trials-tell : map (λ (t : Trial). premises many && agree many t.image t.area) trials ≡ map (λ (t : Trial). t.right) trials
unfolding computed
trials-tell = refl

-- ---- the claim itself is false of them

abbrev cleared : Bytes → ℕ → Bytes
cleared xs n = take n xs ++ replicate (length xs - n) 0

-- an image of zeros: byte 3 is that of the handle of a
pub no-zero-image : WholeImage many (cleared image 0) area → ⊥
unfolding computed
no-zero-image w = let h = (w.every_byte refl refl).image_at 3 in absurd (omega (arith, h))

-- an area whose first array is filled and whose others are skipped: byte 11 is that of the handle of the first string of u
pub no-first-array-only : WholeImage many image (cleared area 8) → ⊥
unfolding computed
no-first-array-only w = let h = (w.every_byte refl refl).area_at 11 in absurd (omega (arith, h))
