-- 01's marked rows (●), its edges and its likely slips, as one table: each sheet with its outcome, by computation.
use Prim.Native.Nat.{ℕ}
use Prim.Native.String.{String}
use mathlib.Core.Path.{◌≡◌, refl}
use mathlib.Core.List.{List, [], ◌∷◌, ◌++◌, map}
use lib.ListN.{replicate}
use Rattle.semantics.specs.Open.{computed}
use Rattle.semantics.specs.Text.{Bytes, bytes}
use Rattle.semantics.specs.Sheet.{concat_map}
use Rattle.semantics.specs.Refusal.{Outcome, listing_of}
use Rattle.semantics.specs.Refusal.Outcome.{listed, refused}

pub record SheetOutcome : Type 0 where
  pub sheet : Bytes
  pub outcome : Outcome

-- the two opaque records that every listing has
abbrev opaque : Bytes
opaque = bytes "typ,0,48,12,FFF0\ntyp,1,48,12,FFF0\n"

-- a sheet whose listing is these lines and the two opaque records
abbrev lists : String → String → SheetOutcome
lists sheet lines = record { sheet = bytes sheet; outcome = listed (bytes lines ++ opaque) }

abbrev refuses : Bytes → ℕ → ℕ → SheetOutcome
refuses sheet n k = record { sheet = sheet; outcome = refused n k }

-- a constant A of an operator on two integers
abbrev operator : String → String → String → String → SheetOutcome
operator op x y value = record {
  sheet = bytes "ex,int," ++ bytes x ++ bytes "\nex,int," ++ bytes y ++ bytes "\nex,bin," ++ bytes op ++ bytes ",1,2\ncon,A,1,1,3\n";
  outcome = listed (bytes "con,A," ++ bytes value ++ bytes "\n" ++ opaque);
}

-- a constant named by as many letters
abbrev named : ℕ → Bytes
named n = bytes "ex,int,1\ncon," ++ replicate n 97 ++ bytes ",1,1,1\n"

-- a literal of a size with no element
abbrev literal_sheet : String → Bytes
literal_sheet size = bytes "ex,int," ++ bytes size ++ bytes "\nex,lit,1,0,0\nty,int\nty,array,3\nvar,4,2,1,a\n"

-- a block of size 36 with a pointer at an offset
abbrev block : String → String → SheetOutcome
block offset type = record {
  sheet = bytes "need,block,36,1," ++ bytes offset ++ bytes "\n";
  outcome = listed (opaque ++ bytes "typ,2,36," ++ bytes type ++ bytes "\nuse,2\n");
}

abbrev pub rows : List SheetOutcome
rows =
    -- the round sheet, whole
    record {
      sheet = bytes "impl,Round\nty,string\nty,big\nfd,2,1,tag\nfd,3,1,at\nadt,Scan,2,4,5\nex,int,3\ncon,KEEP,1,1,7\nex,id,KEEP\nex,int,7\nel,next,10\nty,int\nex,lit,9,12,1,11\nty,int\nty,array,14\nvar,15,13,1,a\nneed,adt,Scan\n";
      outcome = listed (bytes "rec,Scan,-1,-1,16,80\nfld,tag,0,4\nfld,at,8,8\ncon,KEEP,i,3\nglo,a,0,4,1\ndat,array,0,3,3\ndat,set,0,0\ndat,words,0,3,7,0,0\ndat,back\n" ++ opaque ++ bytes "typ,2,16,1,80\ntyp,3,4,0,00\nuse,2\n");
    }
    -- the empty sheet
    ∷ lists "" ""
    -- 7/0 fails; −7/2 = −3, remainder −1
    ∷ operator "3" "7" "0" "x"
    ∷ operator "3" "-7" "2" "i,-3"
    ∷ operator "4" "-7" "2" "i,-1"
    -- 1 << −1 = −2^63; −8 >> 1 = −4
    ∷ operator "9" "1" "-1" "i,-9223372036854775808"
    ∷ operator "10" "-8" "1" "i,-4"
    -- 2^53+1 to real; −2.5 to int
    ∷ lists "ex,int,9007199254740993\nty,real\nex,cast,2,1\ncon,A,1,1,3\n" "con,A,r,4340000000000000\n"
    ∷ lists "ex,real,C004000000000000\nty,int\nex,cast,2,1\ncon,A,1,1,3\n" "con,A,i,-2\n"
    -- `a, b: (big, int)`: 0, 12, size 24, map 90
    ∷ lists "ty,big\nty,int\nty,tuple,2,1,2\nfd,3,2,a,b\nadt,T,1,4\n" "rec,T,-1,-1,24,90\nfld,a,0,12\nfld,b,12,12\n"
    -- empty pick: size 4
    ∷ lists "pick,T,0,0\n" "rec,T,-1,-1,4,00\n"
    -- size 36, offset 32: 0080, offset 33: 0000
    ∷ block "32" "1,0080"
    ∷ block "33" "0,0000"
    -- edges: names 32/33, literals 1,024/1,025, `alloc` −1
    ∷ record { sheet = named 32; outcome = listed (bytes "con," ++ replicate 32 97 ++ bytes ",i,1\n" ++ opaque) }
    ∷ refuses (named 33) 3 2
    ∷ record {
      sheet = literal_sheet "1024";
      outcome = listed (bytes "glo,a,0,4,1\ndat,array,0,2,1024\ndat,set,0,0\ndat,words,0,1024" ++ concat_map bytes (replicate 1024 ",0") ++ bytes "\ndat,back\n" ++ opaque ++ bytes "typ,2,4,0,00\n");
    }
    ∷ refuses (literal_sheet "1025") 12 5
    ∷ refuses (bytes "ex,int,-1\nty,int\nex,alloc,1,2\nty,int\nty,array,4\nvar,5,3,1,a\n") 10 6
    -- likely slips: folding top-level constants first
    ∷ lists "ex,int,5\ncon,A,1,1,1\nmod,M\nex,id,A\ncon,B,1,1,4\nend\nex,id,M\nex,qual,7,B\ncon,C,1,1,8\n" "con,M->B,x\ncon,A,i,5\ncon,C,x\n"
    -- a module constant seeing its unimplemented module's names
    ∷ lists "impl,Main\nmod,M\nex,int,5\ncon,A,1,1,3\nex,id,A\ncon,B,1,1,5\nex,id,M\nex,qual,7,A\ncon,C,1,1,8\nend\nmod,Main\nex,int,6\ncon,D,1,1,12\nex,id,D\ncon,E,1,1,14\nend\n" "con,M->A,i,5\ncon,M->B,x\ncon,M->C,i,5\ncon,Main->D,i,6\ncon,Main->E,i,6\ncon,D,i,6\ncon,E,i,6\n"
    -- masking `byte 300`
    ∷ lists "ex,int,300\nty,byte\nex,cast,2,1\ncon,A,1,1,3\nex,int,300\nty,byte\nex,cast,6,5\nty,byte\nvar,8,7,1,b\n" "con,A,i,300\nglo,b,0,4,0\ndat,words,0,1,300\n"
    -- each name of a `var` line has its place and its value, but `nil`
    ∷ lists "ty,int\nex,int,5\nvar,1,2,3,a,nil,b\n" "glo,a,0,4,0\nglo,b,4,4,0\ndat,words,0,1,5\ndat,words,4,1,5\n"
    -- a repeated index takes the last value, and the last wildcard fills
    ∷ record {
      sheet = bytes "ex,int,7\nel,star,1\nex,int,8\nel,star,3\nex,int,1\nel,next,5\nex,int,2\nex,int,0\nse,8,0\nel,at,7,1,9\nex,int,3\nex,lit,11,0,4,2,4,6,10\nty,int\nty,array,13\nvar,14,12,1,a\n";
      outcome = listed (bytes "glo,a,0,4,1\ndat,array,0,2,3\ndat,set,0,0\ndat,words,0,3,2,8,8\ndat,back\n" ++ opaque ++ bytes "typ,2,4,0,00\n");
    }
    ∷ []

-- every row's sheet has its outcome
pub rows-hold : map (λ (r : SheetOutcome). listing_of r.sheet) rows ≡ map (λ (r : SheetOutcome). r.outcome) rows
unfolding computed
rows-hold = refl
