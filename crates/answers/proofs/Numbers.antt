-- The numbers of refusals: those of `var` lines are 8 to 12, and those of the checks 1 to 7.
use mathlib.Core.Path.{◌≡◌, refl, subst}
use mathlib.Core.Bool.{Bool, true, false, not, cond}
use mathlib.Core.List.{List, [], ◌∷◌, ◌++◌}
use Rattle.std.specs.Prelude.{Option, None, Some}
use Prim.Native.Nat.{ℕ, ◌^◌, ◌≤◌}
use native.Mathlib.Omega.{arith}
use lib.IntN.{ℤ, pos, negsuc}
use lib.Signed.{lt_z, le_z}
use lib.Dec.{leb, ltb, eqb}
use lib.ListN.{length}
use lib.Ieee as F
use lib.Ieee.{Float}
use Rattle.semantics.specs.Text.{Bytes, any, or_else, line_parts, same, bytes}
use Rattle.semantics.specs.Tree.{Ty, Ex, ArrayEx, MaybeEx, El, Els, Ses, ConstVal, ElemKind, UnaryOp, Arith, IntOp, BinOp, VarDecl, elem_of}
use Rattle.semantics.specs.Tree.ConstVal.{v_int, v_real, v_str}
use Rattle.semantics.specs.Tree.Ex.{constant, ident, mod_qual, unary, binary, cast, len, array_ex, other_ex}
use Rattle.semantics.specs.Tree.ArrayEx.{alloc, lit}
use Rattle.semantics.specs.Tree.MaybeEx.{absent, given}
use Rattle.semantics.specs.Tree.El.{next, star, at}
use Rattle.semantics.specs.Tree.Els.{no_els, and_el}
use Rattle.semantics.specs.Tree.Ses.{no_ses, and_se}
use Rattle.semantics.specs.Tree.UnaryOp.{neg, not as lnot, bit_not, ref}
use Rattle.semantics.specs.Tree.Arith.{add, sub, mul, div}
use Rattle.semantics.specs.Tree.IntOp.{rem, and, or, xor, lshift, rshift, eq, neq, lt, gt, leq, geq}
use Rattle.semantics.specs.Tree.BinOp.{arith as arith_op, int_op, power, log_and, log_or}
use Rattle.semantics.specs.Sheet.{Located, reads_of, nodes_from}
use Rattle.semantics.specs.Const.{Refusal}
use Rattle.semantics.specs.Fold.{Result, bind, from_option, to_real, value_of, look_up, eq_z, plain, qualified, test, is_zero, int_only, int_arith, int_binary, real_binary, str_binary, fold_binary, fold_unary, fold_len, qualified_value, Names, fold, fold_at0}
use Rattle.semantics.specs.Fold.Result.{ok, failed, refuse}
use Rattle.semantics.specs.Array.{Filled, elem_kind, outside, ConstArray, none_filled, place_indices, place_spans, as_int, index_of, high_of, span_of, spans_of, fill_element, fill, as_size, literal_size, allocated, array_of, const_array}
use Rattle.semantics.specs.Global.{var_value, init_of, first_value, laid_names, none_of, refused_by, vars_refused}
use Rattle.semantics.specs.Refusal.{Outcome, listed, refused, refuse_if, refuse_at, no_counts, bad_form, bad_ref_from, too_deep_from, bad_module_from, too_many_from, tested}
use Rattle.answers.specs.declared.Refusal.{Refusal as Refused}
use Rattle.answers.specs.declared.Refusal.TheVariants.{LongSheet, SmallSpace, NoForm, BadReference, DeepNesting, BadModule, TooMany, LongString, LongAlloc, NegativeAlloc, OutsideLiteral, LongLiteral, Outgrown}
use Rattle.answers.specs.Answers.{refusal_number, refusal_line, RefusalAt}

-- a refusal while the work goes on
LateIs : {A : Type 0} → Result A → Type 0
LateIs (ok a) = Unit {0}
LateIs failed = Unit {0}
LateIs (refuse r) = (8 ≤ r) × (r ≤ 12)

record Late {A : Type 0} (x : Result A) : Type 0 where
  is : LateIs x

module _ {A : Type 0} where
  fine : {a : A} → Late (ok a)
  unfolding LateIs
  fine = record { is = tt }

  fails : Late {A = A} failed
  unfolding LateIs
  fails = record { is = tt }

  refuses : {r : ℕ} → 8 ≤ r → r ≤ 12 → Late {A = A} (refuse r)
  unfolding LateIs
  refuses a b = record { is = (a, b) }

  either : (b : Bool) {x y : Result A} → Late x → Late y → Late (cond b x y)
  either true p q = p
  either false p q = q

  late-option : (o : Option A) → Late (from_option o)
  late-option None = fails
  late-option (Some a) = fine

late-bind : {A B : Type 0} (x : Result A) {f : A → Result B} → Late x → ((a : A) → Late (f a)) → Late (bind x f)
unfolding LateIs
late-bind (ok a) p g = g a
late-bind failed p g = fails
late-bind (refuse r) p g = refuses p.is.0 p.is.1

-- ---- folds

test-late : (b : Bool) → Late (test b)
test-late true = fine
test-late false = fine

arith-late : (o : Arith) (x y : ℤ) → Late (int_arith o x y)
arith-late add x y = fine
arith-late sub x y = fine
arith-late mul x y = fine
arith-late div x y = either (is_zero y) fails fine

only-late : (o : IntOp) (x y : ℤ) → Late (int_only o x y)
only-late rem x y = either (is_zero y) fails fine
only-late and x y = fine
only-late or x y = fine
only-late xor x y = fine
only-late lshift x y = fine
only-late rshift x y = fine
only-late eq x y = test-late (eq_z x y)
only-late neq x y = test-late (not (eq_z x y))
only-late lt x y = test-late (lt_z x y)
only-late gt x y = test-late (lt_z y x)
only-late leq x y = test-late (le_z x y)
only-late geq x y = test-late (le_z y x)

int-late : (o : BinOp) (x y : ℤ) → Late (int_binary o x y)
int-late (arith_op o) x y = arith-late o x y
int-late (int_op o) x y = only-late o x y
int-late power x y = fails
int-late log_and x y = fails
int-late log_or x y = fails

real-late : (o : BinOp) (x y : Float) → Late (real_binary o x y)
real-late (arith_op o) x y = fine
real-late (int_op o) x y = fails
real-late power x y = fails
real-late log_and x y = fails
real-late log_or x y = fails

str-late : (o : BinOp) (x y : Bytes) → Late (str_binary o x y)
str-late (arith_op add) x y = either (leb (length (x ++ y)) 256) fine (refuses (omega arith) (omega arith))
str-late (arith_op sub) x y = fails
str-late (arith_op mul) x y = fails
str-late (arith_op div) x y = fails
str-late (int_op o) x y = fails
str-late power x y = fails
str-late log_and x y = fails
str-late log_or x y = fails

binary-late : (o : BinOp) (x y : ConstVal) → Late (fold_binary o x y)
binary-late o (v_int x) (v_int y) = int-late o x y
binary-late o (v_int x) (v_real y) = real-late o (to_real x) y
binary-late o (v_int x) (v_str y) = fails
binary-late o (v_real x) (v_int y) = real-late o x (to_real y)
binary-late o (v_real x) (v_real y) = real-late o x y
binary-late o (v_real x) (v_str y) = fails
binary-late o (v_str x) (v_int y) = fails
binary-late o (v_str x) (v_real y) = fails
binary-late o (v_str x) (v_str y) = str-late o x y

unary-late : (o : UnaryOp) (x : ConstVal) → Late (fold_unary o x)
unfolding F.neg
unary-late neg (v_int x) = fine
unary-late lnot (v_int x) = test-late (is_zero x)
unary-late bit_not (v_int x) = fine
unary-late ref (v_int x) = fails
unary-late neg (v_real x) = fine
unary-late lnot (v_real x) = fails
unary-late bit_not (v_real x) = fails
unary-late ref (v_real x) = fails
unary-late o (v_str x) = fails

len-late : (x : ConstVal) → Late (fold_len x)
len-late (v_int x) = fails
len-late (v_real x) = fails
len-late (v_str x) = fine

qualified-late : (ns : Names) (e : Ex) (n : Bytes) → Late (qualified_value ns e n)
qualified-late ns (constant v) n = fails
qualified-late ns (ident m) n = late-option (value_of (look_up (qualified m n) ns.log))
qualified-late ns (mod_qual e m) n = fails
qualified-late ns (unary o e) n = fails
qualified-late ns (binary l o r) n = fails
qualified-late ns (cast t e) n = fails
qualified-late ns (len e) n = fails
qualified-late ns (array_ex x) n = fails
qualified-late ns other_ex n = fails

fold-late : (ns : Names) (i : ℤ) (e : Ex) → Late (fold ns i e)
unfolding fold
fold-late ns i (constant v) = fine
fold-late ns i (ident n) = either (same n (bytes "iota")) fine (late-option (value_of (look_up (plain n) ns.log)))
fold-late ns i (mod_qual e n) = qualified-late ns e n
fold-late ns i (unary o e) = late-bind (fold ns i e) (fold-late ns i e) (unary-late o)
fold-late ns i (binary l o r) = late-bind (fold ns i l) (fold-late ns i l) (λ x. late-bind (fold ns i r) (fold-late ns i r) (binary-late o x))
fold-late ns i (cast t e) = late-bind (fold ns i e) (fold-late ns i e) (λ v. fine)
fold-late ns i (len e) = late-bind (fold ns i e) (fold-late ns i e) len-late
fold-late ns i (array_ex a) = fails
fold-late ns i other_ex = fails

at0-late : (ns : Names) (e : Ex) → Late (fold_at0 ns e)
at0-late ns e = fold-late ns (pos 0) e

-- ---- constant arrays

allocated-late : (k : ElemKind) (v : ConstVal) → Late (allocated k v)
allocated-late k (v_int (pos n)) = either (leb n 2147483647) fine (refuses (omega arith) (omega arith))
allocated-late k (v_int (negsuc n)) = either (leb n 2147483647) (refuses (omega arith) (omega arith)) (refuses (omega arith) (omega arith))
allocated-late k (v_real x) = fails
allocated-late k (v_str s) = fails

indices-late : (v : ConstVal) (l h : ℤ) (f : Filled) → Late (place_indices v l h f)
indices-late v (pos l) (pos h) f = either (leb l h) fine fine
indices-late v (pos l) (negsuc h) f = fine
indices-late v (negsuc l) (pos h) f = fails
indices-late v (negsuc l) (negsuc h) f = either (leb h l) fails fine

spans-late : (v : ConstVal) (ss : List (ℤ × ℤ)) (f : Filled) → Late (place_spans v ss f)
spans-late v [] f = fine
spans-late v (s ∷ ss) f = late-bind (place_indices v s.0 s.1 f) (indices-late v s.0 s.1 f) (spans-late v ss)

int-of-late : (v : ConstVal) → Late (as_int v)
int-of-late (v_int x) = fine
int-of-late (v_real x) = fails
int-of-late (v_str x) = fails

module _ (ns : Names) where
  index-late : (e : Ex) → Late (index_of ns e)
  index-late e = late-bind (fold_at0 ns e) (at0-late ns e) int-of-late

  high-late : (l : ℤ) (h : MaybeEx) → Late (high_of ns l h)
  high-late l absent = fine
  high-late l (given e) = index-late e

  span-late : (l : Ex) (h : MaybeEx) → Late (span_of ns l h)
  span-late l h = late-bind (index_of ns l) (index-late l) (λ x. late-bind (high_of ns x h) (high-late x h) (λ y. fine))

  selectors-late : (ss : Ses) → Late (spans_of ns ss)
  selectors-late no_ses = fine
  selectors-late (and_se l h ss) = late-bind (span_of ns l h) (span-late l h) (λ s. late-bind (spans_of ns ss) (selectors-late ss) (λ r. fine))

  element-late : (e : El) (f : Filled) → Late (fill_element ns e f)
  element-late (next e) f = late-bind (fold_at0 ns e) (at0-late ns e) (λ v. either (ltb f.next_index (2 ^ 63)) (indices-late v (pos f.next_index) (pos f.next_index) f) fails)
  element-late (star e) f = late-bind (fold_at0 ns e) (at0-late ns e) (λ v. fine)
  element-late (at e ss) f = late-bind (fold_at0 ns e) (at0-late ns e) (λ v. late-bind (spans_of ns ss) (selectors-late ss) (λ l. spans-late v l f))

  fill-late : (es : Els) (f : Filled) → Late (fill ns es f)
  fill-late no_els f = fine
  fill-late (and_el e es) f = late-bind (fill_element ns e f) (element-late e f) (fill-late es)

  size-of-late : (v : ConstVal) → Late (as_size v)
  size-of-late (v_int (pos n)) = fine
  size-of-late (v_int (negsuc n)) = fails
  size-of-late (v_real x) = fails
  size-of-late (v_str x) = fails

  size-late : (s : MaybeEx) (f : Filled) → Late (literal_size ns s f)
  size-late absent f = fine
  size-late (given e) f = late-bind (fold_at0 ns e) (at0-late ns e) size-of-late

  array-late : (d : Option Ty) (a : ArrayEx) → Late (array_of ns d a)
  array-late d (alloc e t) = late-bind (fold_at0 ns e) (at0-late ns e) (allocated-late (elem_kind (or_else t d)))
  array-late d (lit s t es) = late-bind (fill ns es none_filled) (fill-late es none_filled) (λ f. late-bind (literal_size ns s f) (size-late s f) (λ n. either (any (outside n) f.placements) (refuses (omega arith) (omega arith)) (either (leb n 1024) fine (refuses (omega arith) (omega arith)))))

  form-late : (d : Option Ty) (e : Ex) → Late (const_array ns d e)
  form-late d (constant v) = fails
  form-late d (ident m) = fails
  form-late d (mod_qual e m) = fails
  form-late d (unary o e) = fails
  form-late d (binary l o r) = fails
  form-late d (cast t e) = fails
  form-late d (len e) = fails
  form-late d (array_ex x) = array-late d x
  form-late d other_ex = fails

  -- ---- `var` lines

  first-late : (x : Result ConstVal) (y : Result ConstArray) → Late x → Late y → Late (first_value x y)
  unfolding LateIs
  first-late (ok v) y p q = fine
  first-late failed (ok a) p q = fine
  first-late failed failed p q = fine
  first-late failed (refuse r) p q = refuses q.is.0 q.is.1
  first-late (refuse r) y p q = refuses p.is.0 p.is.1

  init-late : (t : Ty) (o : Option Ex) → Late (init_of ns t o)
  init-late t None = fine
  init-late t (Some e) = first-late (fold_at0 ns e) (const_array ns (elem_of t) e) (at0-late ns e) (form-late (elem_of t) e)

  parts-late : (t : Ty) (o : Option Ex) (xs : List Bytes) → Late (var_value ns (record { ty = t; init = o; names = xs }))
  parts-late t None xs = either (none_of (laid_names xs)) fine fine
  parts-late t (Some e) xs = either (none_of (laid_names xs)) (late-bind (fold_at0 ns e) (at0-late ns e) (λ v. fine)) (init-late t (Some e))

  var-late : (d : VarDecl) → Late (var_value ns d)
  var-late d = parts-late d.ty d.init d.names

LateRefusal : Option Refusal → Type 0
LateRefusal None = Unit {0}
LateRefusal (Some x) = (8 ≤ x.number) × (x.number ≤ 12)

by-late : {A : Type 0} (k : ℕ) (x : Result A) (o : Option Refusal) → Late x → LateRefusal o → LateRefusal (refused_by k x o)
unfolding LateIs LateRefusal
by-late k (ok a) o p q = q
by-late k failed o p q = q
by-late k (refuse r) o p q = p.is

vars-late : (ns : Names) (vs : List (Located VarDecl)) → LateRefusal (vars_refused ns vs)
unfolding LateRefusal
vars-late ns [] = tt
vars-late ns (v ∷ vs) = by-late v.line (var_value ns v.it) (vars_refused ns vs) (var-late ns v.it) (vars-late ns vs)

-- ---- numbers and their lines

pub with-line : {q k : ℕ} → 3 ≤ q → q ≤ 12 → RefusalAt q k
with-line a b = record { first = omega arith; last = omega arith; sheet = λ e. absurd (omega arith); space = λ e. absurd (omega arith); outgrown = λ e. absurd (omega arith) }

pub without-line : {q : ℕ} → 1 ≤ q → q ≤ 13 → RefusalAt q 0
without-line a b = record { first = omega arith; last = omega arith; sheet = λ e. refl; space = λ e. refl; outgrown = λ e. refl }

-- each case of the enum has such a number and line
pub numbered : (r : Refused) → RefusalAt (refusal_number r) (refusal_line r)
numbered LongSheet = without-line (omega arith) (omega arith)
numbered SmallSpace = without-line (omega arith) (omega arith)
numbered (NoForm k) = with-line (omega arith) (omega arith)
numbered (BadReference k) = with-line (omega arith) (omega arith)
numbered (DeepNesting k) = with-line (omega arith) (omega arith)
numbered (BadModule k) = with-line (omega arith) (omega arith)
numbered (TooMany k) = with-line (omega arith) (omega arith)
numbered (LongString k) = with-line (omega arith) (omega arith)
numbered (LongAlloc k) = with-line (omega arith) (omega arith)
numbered (NegativeAlloc k) = with-line (omega arith) (omega arith)
numbered (OutsideLiteral k) = with-line (omega arith) (omega arith)
numbered (LongLiteral k) = with-line (omega arith) (omega arith)
numbered Outgrown = without-line (omega arith) (omega arith)

pub vars-numbered : (ns : Names) (vs : List (Located VarDecl)) {q k : ℕ} → vars_refused ns vs ≡ Some (record { number = q; line = k }) → RefusalAt q k
unfolding LateRefusal
vars-numbered ns vs e = let p = subst LateRefusal e (vars-late ns vs) in with-line (omega (arith, p.0)) p.1

-- what is refused has a number
NamedIs : Outcome → Type 0
NamedIs (listed x) = Unit {0}
NamedIs (refused q k) = RefusalAt q k

record Named (o : Outcome) : Type 0 where
  is : NamedIs o

named : {q k : ℕ} → RefusalAt q k → Named (refused q k)
unfolding NamedIs
named n = record { is = n }

one_of : (b : Bool) {o p : Outcome} → Named o → Named p → Named (cond b o p)
one_of true h k = h
one_of false h k = k

named-if : (q : ℕ) (b : Bool) {o : Outcome} → 1 ≤ q → q ≤ 13 → Named o → Named (refuse_if q b o)
named-if q b x y h = one_of b (named (without-line x y)) h

named-at : (q k : ℕ) {o : Outcome} → 3 ≤ q → q ≤ 12 → Named o → Named (refuse_at q k o)
named-at q k x y h = one_of (eqb k 0) h (named (with-line x y))

tested-named : (w : ℕ) (s : Bytes) {o : Outcome} → Named o → Named (tested w s o)
tested-named w s h =
    let rs = reads_of (line_parts s) in
    named-if 1 (ltb 65535 (length s)) (omega arith) (omega arith)
    (named-if 2 (ltb w 65536) (omega arith) (omega arith)
    (named-at 3 (bad_form 1 (line_parts s)) (omega arith) (omega arith)
    (named-at 4 (bad_ref_from rs 1 [] rs) (omega arith) (omega arith)
    (named-at 5 (too_deep_from 1 [] rs) (omega arith) (omega arith)
    (named-at 6 (bad_module_from 1 false rs) (omega arith) (omega arith)
    (named-at 7 (too_many_from 1 no_counts (nodes_from [] rs)) (omega arith) (omega arith) h))))))

pub tested-numbered : (w : ℕ) (s : Bytes) {q k : ℕ} → ((o : Outcome) → tested w s o ≡ refused q k) → RefusalAt q k
unfolding NamedIs
tested-numbered w s h = (subst Named (h (listed [])) (tested-named w s (record { is = tt }))).is
