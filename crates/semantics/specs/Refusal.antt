-- The thirteen refusals in their order, and the outcome of compiling a sheet and of replaying its items.
use Rattle.std.specs.Prelude.{ℕ, suc, ◌+◌, ◌-◌, max, Bool, true, false, not, ◌&&◌, ◌||◌, cond, List, [], ◌∷◌, ◌++◌, length, get_or, replicate, leb, ltb, eqb, Option, None, Some}
use Rattle.semantics.specs.Text.{Bytes, bytes, any, line_parts, decimal, hex_of}
use Rattle.semantics.specs.Tree.{Case, AdtDecl, VarDecl, Declares, Node}
use Rattle.semantics.specs.Form.{Kind, Atom, Part, Read, no_row, letter, same_kind, ones, number_of, formed}
use Rattle.semantics.specs.Form.Kind.{k_mod, k_end}
use Rattle.semantics.specs.Form.Atom.{name, key, ref, maybe, unary_op, binary_op, line_or_col, size, i64, offset, real, text}
use Rattle.semantics.specs.Form.Part.{one, many}
use Rattle.semantics.specs.Sheet.{Source, reads_of, nodes_from, sheet_source}
use Rattle.semantics.specs.Const.{Refusal, constants, names_of}
use Rattle.semantics.specs.Global.{Globals, globals, laid_vars, vars_refused}
use Rattle.semantics.specs.Listing.{row, listing}
use Rattle.semantics.specs.Image.{Memory, memory_of, area_after}

-- Each of 3 to 7 is the number of the first offending line, 0 where there is none.

-- ---- 3: every line has a form; what stands behind the last LF is empty, or a line that lacks its LF

abbrev pub most_lines : ℕ
most_lines = 1024

unfoldable pub bad_form : ℕ → List Bytes → ℕ
bad_form k [] = 0
bad_form k (l ∷ []) = cond (eqb (length l) 0) 0 k
bad_form k (l ∷ (m ∷ ls)) = cond (leb k most_lines && formed k l) (bad_form (suc k) (m ∷ ls)) k

-- ---- 4: references

-- a reference: the letter of the kind it wants, whether it may be 0, and the number
pub record Ref : Type 0 where
  pub kind : ℕ
  pub optional : Bool
  pub line : ℕ

-- the reference that a field is, before others
abbrev pub ref_of : Atom → Bytes → List Ref → List Ref
ref_of name f rs = rs
ref_of key f rs = rs
ref_of (ref k) f rs = record { kind = letter k; optional = false; line = number_of f } ∷ rs
ref_of (maybe k) f rs = record { kind = letter k; optional = true; line = number_of f } ∷ rs
ref_of unary_op f rs = rs
ref_of binary_op f rs = rs
ref_of line_or_col f rs = rs
ref_of size f rs = rs
ref_of i64 f rs = rs
ref_of offset f rs = rs
ref_of real f rs = rs
ref_of text f rs = rs

-- the references among fields
abbrev pub refs_in : List Part → List Bytes → List Ref
refs_in [] [] = []
refs_in [] (f ∷ fs) = []
refs_in (p ∷ ps) [] = []
refs_in (one a ∷ ps) (f ∷ fs) = ref_of a f (refs_in ps fs)
refs_in (many a ∷ ps) (f ∷ fs) = refs_in (ones (number_of f) a ++ ps) fs

abbrev pub refs_of : Read → List Ref
refs_of l = refs_in l.form.parts l.fields

abbrev pub no_read : Read
no_read = record { form = no_row; fields = [] }

-- line r of lines, from 1
abbrev pub line_at : List Read → ℕ → Read
line_at ls r = get_or ls (r - 1) no_read

-- whether a reference of line k is good: 0 where it may be, or an earlier line of its kind, not among those referred to so far
abbrev pub good_ref : List Read → ℕ → List ℕ → Ref → Bool
good_ref ls k used r =
    cond (eqb r.line 0) r.optional
    (ltb r.line k && eqb (letter (line_at ls r.line).form.kind) r.kind && not (any (eqb r.line) used))

-- the lines used after a line's references, none where one is bad
abbrev pub use_all : List Read → ℕ → List Ref → List ℕ → Option (List ℕ)
use_all ls k [] used = Some used
use_all ls k (r ∷ rs) used = cond (good_ref ls k used r) (use_all ls k rs (r.line ∷ used)) None

abbrev pub or_bad : ℕ → (List ℕ → ℕ) → Option (List ℕ) → ℕ
or_bad k go None = k
or_bad k go (Some used) = go used

unfoldable pub bad_ref_from : List Read → ℕ → List ℕ → List Read → ℕ
bad_ref_from ls k used [] = 0
bad_ref_from ls k used (m ∷ ms) = or_bad k (λ (u : List ℕ). bad_ref_from ls (suc k) u ms) (use_all ls k (refs_of m) used)

-- ---- 5: references nest over 32 lines, itself counted; `depths` are those of the lines before

abbrev pub deepest_nesting : ℕ
deepest_nesting = 32

abbrev pub deepest : List ℕ → List Ref → ℕ
deepest depths [] = 0
deepest depths (r ∷ rs) = max (cond (eqb r.line 0) 0 (get_or depths (r.line - 1) 0)) (deepest depths rs)

unfoldable pub too_deep_from : ℕ → List ℕ → List Read → ℕ
too_deep_from k depths [] = 0
too_deep_from k depths (l ∷ ls) =
    let d = suc (deepest depths (refs_of l)) in
    cond (leb d deepest_nesting) (too_deep_from (suc k) (depths ++ (d ∷ [])) ls) k

-- ---- 6: `mod` in `mod`, `end` outside, or an open `mod` at the last line

abbrev pub is_a : Kind → Read → Bool
is_a k l = same_kind l.form.kind k

unfoldable pub bad_module_from : ℕ → Bool → List Read → ℕ
bad_module_from k is_open [] = cond is_open (k - 1) 0
bad_module_from k is_open (l ∷ ls) =
    cond (is_a k_mod l && is_open || is_a k_end l && not is_open) k
    (bad_module_from (suc k) (cond (is_a k_mod l) true (cond (is_a k_end l) false is_open)) ls)

-- ---- 7: counts

-- `con`, `need` and `frame` lines, records plus tags, and `var` names
pub record Counts : Type 0 where
  pub consts : ℕ
  pub needs : ℕ
  pub frames : ℕ
  pub records : ℕ
  pub names : ℕ

abbrev pub no_counts : Counts
no_counts = record { consts = 0; needs = 0; frames = 0; records = 0; names = 0 }

abbrev pub sum_of : {A : Type 0} → (A → ℕ) → List A → ℕ
sum_of f [] = 0
sum_of f (x ∷ xs) = f x + sum_of f xs

abbrev pub record_count : Option (List Case) → ℕ
record_count None = 1
record_count (Some ks) = 1 + sum_of (λ (k : Case). length k.tags) ks

abbrev pub counted : Declares → Counts → Counts
counted d c = record {
  consts = c.consts + length d.consts;
  needs = c.needs + length d.needs;
  frames = c.frames + length d.frames;
  records = c.records + sum_of (λ (a : AdtDecl). record_count a.pick) d.adts;
  names = c.names + sum_of (λ (v : VarDecl). length v.names) d.vars;
}

abbrev pub over_limits : Counts → Bool
over_limits c = ltb 128 c.consts || ltb 128 c.needs || ltb 128 c.frames || ltb 128 c.records || ltb 256 c.names

unfoldable pub too_many_from : ℕ → Counts → List Node → ℕ
too_many_from k c [] = 0
too_many_from k c (n ∷ ns) =
    let d = counted n.declares c in
    cond (over_limits d) k (too_many_from (suc k) d ns)

-- ---- the outcome of compiling

pub data Outcome : Type 0 where
  listed : Bytes → Outcome
  refused : ℕ → ℕ → Outcome

-- refusal n at line k, or o where k is 0
abbrev pub refuse_at : ℕ → ℕ → Outcome → Outcome
refuse_at n k o = cond (eqb k 0) o (refused n k)

-- refusal n with line 0 where b holds, or else o
abbrev pub refuse_if : ℕ → Bool → Outcome → Outcome
refuse_if n b o = cond b (refused n 0) o

-- a listing in a buffer of n bytes
abbrev pub listed_in : ℕ → Bytes → Outcome
listed_in n out = refuse_if 13 (ltb n (length out)) (listed out)

abbrev pub or_refused : Option Refusal → Option Refusal → Option Refusal
or_refused None o = o
or_refused (Some r) o = Some r

abbrev pub refuse_work : Option Refusal → Outcome → Outcome
refuse_work None o = o
refuse_work (Some r) o = refused r.number r.line

-- 4 to 7
abbrev pub ruled : List Read → Outcome → Outcome
ruled rs o =
    refuse_at 4 (bad_ref_from rs 1 [] rs)
    (refuse_at 5 (too_deep_from 1 [] rs)
    (refuse_at 6 (bad_module_from 1 false rs)
    (refuse_at 7 (too_many_from 1 no_counts (nodes_from [] rs)) o)))

-- 3 to 7
abbrev pub checked : List Bytes → Outcome → Outcome
checked ls o = refuse_at 3 (bad_form 1 ls) (ruled (reads_of ls) o)

abbrev pub longest_sheet : ℕ
longest_sheet = 65535

abbrev pub least_work : ℕ
least_work = 65536

-- 1 to 7, where the working space has so many bytes
abbrev pub tested : ℕ → Bytes → Outcome → Outcome
tested work s o = refuse_if 1 (ltb longest_sheet (length s)) (refuse_if 2 (ltb work least_work) (checked (line_parts s) o))

-- 8 to 12, as the work meets them: constants, then `var` lines
abbrev pub work_refused : Source → Option Refusal
work_refused s = or_refused (constants s).refused (vars_refused (names_of s) (laid_vars s))

abbrev pub source_globals : Source → Globals
source_globals s = globals (names_of s) s

abbrev pub source_listing : Source → Bytes
source_listing s = listing s (constants s).log (source_globals s)

-- declarations, worked through, into a listing buffer of n bytes
abbrev pub worked : ℕ → Source → Outcome
worked n s = refuse_work (work_refused s) (listed_in n (source_listing s))

-- what compiling a sheet gives, where the listing's buffer and the working space have so many bytes
unfoldable pub compiled : ℕ → ℕ → Bytes → Outcome
compiled listing work s = tested work s (worked listing (sheet_source s))

-- ---- the outcome of replay

-- the bytes that each lent buffer has
pub record Buffers : Type 0 where
  pub listing : ℕ
  pub work : ℕ
  pub image : ℕ
  pub area : ℕ

pub data Imaged : Type 0 where
  laid : Bytes → Bytes → Imaged
  not_laid : ℕ → ℕ → Imaged

-- an image in its buffer
abbrev pub laid_in : Buffers → Memory → Imaged
laid_in b m = cond (ltb b.image (length m.image)) (not_laid 13 0) (laid m.image m.area)

-- and before it the area in its own
abbrev pub replayed : Buffers → Globals → Imaged
replayed b g = cond (ltb b.area (area_after 0 g.items)) (not_laid 13 0) (laid_in b (memory_of g))

abbrev pub after_listing : Buffers → Globals → Outcome → Imaged
after_listing b g (listed out) = replayed b g
after_listing b g (refused n k) = not_laid n k

-- what compiling a sheet and replaying its items gives
unfoldable pub imaged : Buffers → Bytes → Imaged
imaged b s = after_listing b (source_globals (sheet_source s)) (compiled b.listing b.work s)

-- ---- what the lent buffers hold afterwards: what was written and zeros behind it, and zeros alone after a refusal.
-- The working space holds zeros in any case.

abbrev pub zeros : ℕ → Bytes
zeros n = replicate n 0

abbrev pub padded : ℕ → Bytes → Bytes
padded n xs = xs ++ zeros (n - length xs)

-- the listing's bytes after compiling
abbrev pub listing_bytes : Outcome → Bytes
listing_bytes (listed out) = out
listing_bytes (refused n k) = []

-- and after compiling and replaying
abbrev pub listing_kept : Outcome → Imaged → Bytes
listing_kept o (laid image area) = listing_bytes o
listing_kept o (not_laid n k) = []

abbrev pub image_bytes : Imaged → Bytes
image_bytes (laid image area) = image
image_bytes (not_laid n k) = []

abbrev pub area_bytes : Imaged → Bytes
area_bytes (laid image area) = area
area_bytes (not_laid n k) = []

-- ---- the programs: each buffer has 65,536 bytes

abbrev pub lent : ℕ
lent = 65536

abbrev pub listing_of : Bytes → Outcome
listing_of s = compiled lent lent s

abbrev pub program_buffers : Buffers
program_buffers = record { listing = lent; work = lent; image = lent; area = lent }

-- what the listing program prints; a refusal prints `no,NUMBER,LINE`
abbrev pub printed : Outcome → Bytes
printed (listed out) = out
printed (refused n k) = row (bytes "no" ∷ decimal n ∷ decimal k ∷ [])

-- what the image program prints: a row of hexadecimal digits each for image and area, or the row of the refusal
abbrev pub printed_image : Imaged → Bytes
printed_image (laid image area) = row (bytes "image" ∷ hex_of image ∷ []) ++ row (bytes "area" ∷ hex_of area ∷ [])
printed_image (not_laid n k) = printed (refused n k)
