-- What one way through a declaration finds is what is said of the declaration as a whole.
use Rattle.std.proofs.Common.{◌≡◌, ℕ, ◌+◌, Bool, true, false, cond, List, [], ◌∷◌, ◌++◌, length, Option, None, refl, sym, ap, ◌∙◌, append_assoc, append-nil, length-append, arith}
use Rattle.std.specs.List.{fold, flat_map}
use Rattle.pdll_syntax.specs.declared.fault.PatFault.{PatFault}
use Rattle.pdll_syntax.specs.declared.fault.PatKind.{PatKind}
use Rattle.pdll_syntax.specs.declared.fault.PatKind.TheVariants.{Undefined, Redefined, WrongKind, WrongArity, UnknownNative, BadLiteral, TwoRanges, NoResultTypes, BadRoot, AfterRoot, WrongPart}
use Rattle.pdll_syntax.specs.declared.file.Decl.{Decl}
use Rattle.pdll_types.specs.declared.walk.Walk.{Walk}
use Rattle.pdll_types.specs.Signatures.{Declared}
use Rattle.pdll_types.specs.Mentions.{Mention, use_of, mentions}
use Rattle.pdll_types.specs.Sight.{Seen, seen, seen_behind, nothing}
use Rattle.pdll_types.specs.Names.{undefined_at, redefined_at, unknown_native_at}
use Rattle.pdll_types.specs.KindFaults.{wrong_kind_at, wrong_arity_at, two_ranges_at}
use Rattle.pdll_types.specs.Literals.{bad_literal_at}
use Rattle.pdll_types.specs.Parts.{no_result_types_at, bad_root_at, after_root_at, wrong_part_at}
use Rattle.pdll_types.specs.Accepted.{with_those_before, found_in, faults, faults_of, first_of_faults, kind_at, root_at, numbers_of}
use Rattle.pdll_types.specs.Walk.{faults_at, all_noted, seen_of, step, walked, afresh, decl_walked}
use Rattle.pdll_types.proofs.Noting.{noted_both, faults_both}
use Rattle.pdll_types.proofs.Least.{either, either_four, none_right, first_both, noted_first}

-- What is found at a mention, and at each of these with those before it.
abbrev pub At : Type 0 → Type 0
At A = List Declared → Seen → Mention → List A

abbrev pub found : {A : Type 0} → At A → List Declared → List (List Mention × Mention) → List A
found at c es = flat_map (λ m. at c (seen c m.0) m.1) es

-- ---- what is seen

fold_more : {A B : Type 0} (f : B → A → B) (b : B) (xs : List A) (x : A) → fold f b (xs ++ x ∷ []) ≡ f (fold f b xs) x
fold_more f b [] x = refl
fold_more f b (y ∷ xs) x = fold_more f (f b y) xs x

seen_on : (c : List Declared) (before : List Mention) (m : Mention) (w : Walk) → seen_of w ≡ seen c before → seen_of (step c m w) ≡ seen c (before ++ m ∷ [])
unfolding step
seen_on c before m w h = ap (λ s. seen_behind c s m) h ∙ sym (fold_more (seen_behind c) nothing before m)

-- ---- kinds, roots and faults of mentions

kinds_walked : (c : List Declared) (before ms : List Mention) (w : Walk) → seen_of w ≡ seen c before
    → (walked c ms w).kinds ≡ w.kinds ++ found kind_at c (with_those_before before ms)
unfolding step
kinds_walked c before [] w h = sym (append-nil w.kinds)
kinds_walked c before (m ∷ ms) w h =
    let rest = found kind_at c (with_those_before (before ++ m ∷ []) ms) in
    kinds_walked c (before ++ m ∷ []) ms (step c m w) (seen_on c before m w h)
    ∙ (append_assoc w.kinds (kind_at c (seen_of w) m) rest ∙ ap (λ s. w.kinds ++ (kind_at c s m ++ rest)) h)

number_step : (n : ℕ) (b : Bool) (ns ms rest : List ℕ) → ms ≡ ns ++ rest → cond b (n ∷ ms) ms ≡ cond b (n ∷ ns) ns ++ rest
number_step n true ns ms rest h = ap (λ ks. n ∷ ks) h
number_step n false ns ms rest h = h

pub numbers_both : (n : ℕ) (xs ys : List Bool) → numbers_of n (xs ++ ys) ≡ numbers_of n xs ++ numbers_of (n + length xs) ys
numbers_both n [] ys = ap (λ k. numbers_of k ys) (omega arith)
numbers_both n (x ∷ xs) ys = number_step n x _ _ _ (numbers_both (n + 1) xs ys ∙ ap (λ k. numbers_of (n + 1) xs ++ numbers_of k ys) (omega arith))

same_counts : (c : List Declared) (s : Seen) (m : Mention) → length (kind_at c s m) ≡ length (root_at c s m)
same_counts c s (use_of p a at form) = refl
same_counts c s m = refl

roots_walked : (c : List Declared) (before ms : List Mention) (w : Walk) → seen_of w ≡ seen c before
    → (walked c ms w).roots ≡ w.roots ++ numbers_of (length w.kinds) (found root_at c (with_those_before before ms))
unfolding step
roots_walked c before [] w h = sym (append-nil w.roots)
roots_walked c before (m ∷ ms) w h =
    let rest = found root_at c (with_those_before (before ++ m ∷ []) ms) in
    let n = length w.kinds in
    let own = root_at c (seen_of w) m in
    let more = length-append w.kinds (kind_at c (seen_of w) m) ∙ ap (λ k. n + k) (same_counts c (seen_of w) m) in
    roots_walked c (before ++ m ∷ []) ms (step c m w) (seen_on c before m w h)
    ∙ (ap (λ k. (w.roots ++ numbers_of n own) ++ numbers_of k rest) more
    ∙ (append_assoc w.roots (numbers_of n own) (numbers_of (n + length own) rest)
    ∙ (ap (λ ns. w.roots ++ ns) (sym (numbers_both n own rest)) ∙ ap (λ s. w.roots ++ numbers_of n (root_at c s m ++ rest)) h)))

least_walked : (c : List Declared) (before ms : List Mention) (w : Walk) → seen_of w ≡ seen c before
    → (walked c ms w).least ≡ all_noted (found faults_at c (with_those_before before ms)) w.least
unfolding step
least_walked c before [] w h = refl
least_walked c before (m ∷ ms) w h =
    let rest = found faults_at c (with_those_before (before ++ m ∷ []) ms) in
    least_walked c (before ++ m ∷ []) ms (step c m w) (seen_on c before m w h)
    ∙ (sym (noted_both (faults_at c (seen_of w) m) rest w.least) ∙ ap (λ s. all_noted (faults_at c s m ++ rest) w.least) h)

-- ---- each condition apart

abbrev Condition : Type 0
Condition = PatKind × At ℕ

conditions : List Condition
conditions =
    (Undefined, undefined_at) ∷ (Redefined, redefined_at) ∷ (WrongKind, wrong_kind_at) ∷ (WrongArity, wrong_arity_at) ∷ (UnknownNative, unknown_native_at)
    ∷ (BadLiteral, bad_literal_at) ∷ (TwoRanges, two_ranges_at) ∷ (NoResultTypes, no_result_types_at) ∷ (BadRoot, bad_root_at) ∷ (AfterRoot, after_root_at)
    ∷ (WrongPart, wrong_part_at) ∷ []

first_among : (Condition → Option PatFault) → List Condition → Option PatFault
first_among g [] = None
first_among g (k ∷ ks) = either (g k) (first_among g ks)

among_none : (ks : List Condition) → first_among (λ k. None) ks ≡ None
unfolding first_among either
among_none [] = refl
among_none (k ∷ ks) = among_none ks

among_same : (g h : Condition → Option PatFault) → ((k : Condition) → g k ≡ h k) → (ks : List Condition) → first_among g ks ≡ first_among h ks
unfolding first_among
among_same g h e [] = refl
among_same g h e (k ∷ ks) = ap (λ o. either o (first_among g ks)) (e k) ∙ ap (either (h k)) (among_same g h e ks)

among_both : (g h : Condition → Option PatFault) (ks : List Condition) → first_among (λ k. either (g k) (h k)) ks ≡ either (first_among g ks) (first_among h ks)
unfolding first_among either
among_both g h [] = refl
among_both g h (k ∷ ks) = ap (either (either (g k) (h k))) (among_both g h ks) ∙ either_four (g k) (h k) (first_among g ks) (first_among h ks)

next_both : (fs gs : List PatFault) (o : Option PatFault) → first_of_faults gs ≡ o → first_of_faults (fs ++ gs) ≡ either (first_of_faults fs) o
next_both fs gs o h = first_both fs gs ∙ ap (either (first_of_faults fs)) h

-- eleven lists of faults, one behind the other
eleven : (a b c d e f g h i j k : List PatFault)
    → first_of_faults (a ++ (b ++ (c ++ (d ++ (e ++ (f ++ (g ++ (h ++ (i ++ (j ++ k))))))))))
    ≡ either (first_of_faults a) (either (first_of_faults b) (either (first_of_faults c) (either (first_of_faults d) (either (first_of_faults e) (either (first_of_faults f)
    (either (first_of_faults g) (either (first_of_faults h) (either (first_of_faults i) (either (first_of_faults j) (either (first_of_faults k) None))))))))))
eleven a b c d e f g h i j k =
    next_both a _ _ (next_both b _ _ (next_both c _ _ (next_both d _ _ (next_both e _ _ (next_both f _ _ (next_both g _ _ (next_both h _ _ (next_both i _ _ (next_both j _ _
    (sym (none_right (first_of_faults k))))))))))))

abbrev found_of : List Declared → List (List Mention × Mention) → Condition → Option PatFault
found_of c es k = first_of_faults (faults k.0 (found k.1 c es))

at_one : (c : List Declared) (e : List Mention × Mention)
    → first_of_faults (faults_at c (seen c e.0) e.1) ≡ first_among (λ k. first_of_faults (faults k.0 (k.1 c (seen c e.0) e.1))) conditions
unfolding faults_at first_among conditions
at_one c e =
    let s = seen c e.0 in
    eleven (faults Undefined (undefined_at c s e.1)) (faults Redefined (redefined_at c s e.1)) (faults WrongKind (wrong_kind_at c s e.1)) (faults WrongArity (wrong_arity_at c s e.1)) (faults UnknownNative (unknown_native_at c s e.1)) (faults BadLiteral (bad_literal_at c s e.1))
    (faults TwoRanges (two_ranges_at c s e.1)) (faults NoResultTypes (no_result_types_at c s e.1)) (faults BadRoot (bad_root_at c s e.1)) (faults AfterRoot (after_root_at c s e.1)) (faults WrongPart (wrong_part_at c s e.1))

one_more : (c : List Declared) (e : List Mention × Mention) (es : List (List Mention × Mention)) (k : Condition)
    → either (first_of_faults (faults k.0 (k.1 c (seen c e.0) e.1))) (found_of c es k) ≡ found_of c (e ∷ es) k
one_more c e es k =
    let own = k.1 c (seen c e.0) e.1 in
    sym (first_both (faults k.0 own) (faults k.0 (found k.1 c es))) ∙ ap first_of_faults (sym (faults_both k.0 own (found k.1 c es)))

all_apart : (c : List Declared) (es : List (List Mention × Mention)) → first_of_faults (found faults_at c es) ≡ first_among (found_of c es) conditions
all_apart c [] = sym (among_none conditions)
all_apart c (e ∷ es) =
    let own : Condition → Option PatFault = λ k. first_of_faults (faults k.0 (k.1 c (seen c e.0) e.1)) in
    first_both (faults_at c (seen c e.0) e.1) (found faults_at c es)
    ∙ (ap (λ o. either o (first_of_faults (found faults_at c es))) (at_one c e)
    ∙ (ap (either (first_among own conditions)) (all_apart c es)
    ∙ (sym (among_both own (found_of c es) conditions) ∙ among_same _ _ (one_more c e es) conditions)))

whole_apart : (c : List Declared) (d : Decl) → first_of_faults (faults_of c d) ≡ first_among (found_of c (with_those_before [] (mentions c d))) conditions
unfolding faults_of found_in first_among conditions
whole_apart c d =
    let es = with_those_before [] (mentions c d) in
    eleven (faults Undefined (found undefined_at c es)) (faults Redefined (found redefined_at c es)) (faults WrongKind (found wrong_kind_at c es)) (faults WrongArity (found wrong_arity_at c es)) (faults UnknownNative (found unknown_native_at c es)) (faults BadLiteral (found bad_literal_at c es))
    (faults TwoRanges (found two_ranges_at c es)) (faults NoResultTypes (found no_result_types_at c es)) (faults BadRoot (found bad_root_at c es)) (faults AfterRoot (found after_root_at c es)) (faults WrongPart (found wrong_part_at c es))

-- ---- a declaration

either_none : (o : Option PatFault) → either None o ≡ o
unfolding either
either_none o = refl

pub decl_kinds : (c : List Declared) (d : Decl) (w : Walk) → (decl_walked c d w).kinds ≡ w.kinds ++ found_in kind_at c d
unfolding found_in decl_walked
decl_kinds c d w = kinds_walked c [] (mentions c d) (afresh w) refl

pub decl_roots : (c : List Declared) (d : Decl) (w : Walk) → (decl_walked c d w).roots ≡ w.roots ++ numbers_of (length w.kinds) (found_in root_at c d)
unfolding found_in decl_walked
decl_roots c d w = roots_walked c [] (mentions c d) (afresh w) refl

pub decl_least : (c : List Declared) (d : Decl) (w : Walk) → (decl_walked c d w).least ≡ first_of_faults (faults_of c d)
unfolding either decl_walked
decl_least c d w =
    let es = with_those_before [] (mentions c d) in
    least_walked c [] (mentions c d) (afresh w) refl
    ∙ (noted_first (found faults_at c es) None ∙ (either_none (first_of_faults (found faults_at c es)) ∙ (all_apart c es ∙ sym (whole_apart c d))))

found_counts : (c : List Declared) (es : List (List Mention × Mention)) → length (found kind_at c es) ≡ length (found root_at c es)
found_counts c [] = refl
found_counts c (e ∷ es) =
    let s = seen c e.0 in
    let own : length (kind_at c s e.1) ≡ length (root_at c s e.1) = same_counts c s e.1 in
    let rest : length (found kind_at c es) ≡ length (found root_at c es) = found_counts c es in
    length-append (kind_at c s e.1) (found kind_at c es) ∙ (ap (λ k. k + length (found kind_at c es)) own
    ∙ (ap (λ k. length (root_at c s e.1) + k) rest ∙ sym (length-append (root_at c s e.1) (found root_at c es))))

-- a declaration has as many kinds as answers whether they are roots
pub decl_counts : (c : List Declared) (d : Decl) → length (found_in kind_at c d) ≡ length (found_in root_at c d)
unfolding found_in
decl_counts c d = found_counts c (with_those_before [] (mentions c d))
