-- In a declaration without a fault each mention is without one, in the sight of those before it.
use Rattle.std.proofs.Common.{◌≡◌, ℕ, Bool, true, false, cond, List, [], ◌∷◌, ◌++◌, Option, Some, None, refl, subst}
use Rattle.std.specs.Prelude.{⊤}
use Rattle.std.specs.List.{fold, flat_map}
use Rattle.pdll_syntax.specs.declared.fault.PatFault.{PatFault}
use Rattle.pdll_syntax.specs.declared.fault.PatKind.{PatKind}
use Rattle.pdll_syntax.specs.declared.fault.PatKind.TheVariants.{Undefined, Redefined, WrongKind, WrongArity, UnknownNative, BadLiteral, TwoRanges, NoResultTypes, BadRoot, AfterRoot, WrongPart}
use Rattle.pdll_syntax.specs.declared.file.Decl.{Decl}
use Rattle.pdll_types.specs.Signatures.{Declared}
use Rattle.pdll_types.specs.Mentions.{Mention, mentions}
use Rattle.pdll_types.specs.Sight.{Seen, seen, seen_behind, nothing}
use Rattle.pdll_types.specs.Names.{where_so, undefined_at, redefined_at, unknown_native_at}
use Rattle.pdll_types.specs.KindFaults.{wrong_kind_at, wrong_arity_at, two_ranges_at}
use Rattle.pdll_types.specs.Literals.{bad_literal_at}
use Rattle.pdll_types.specs.Parts.{no_result_types_at, bad_root_at, after_root_at, wrong_part_at}
use Rattle.pdll_types.specs.Accepted.{with_those_before, found_in, is_before, faults, faults_of, first_with, first_of_faults, decl_fault}

-- A mention without a fault.
pub record IsFine (c : List Declared) (s : Seen) (m : Mention) : Type 0 where
  pub undefined : undefined_at c s m ≡ []
  pub redefined : redefined_at c s m ≡ []
  pub wrong_kind : wrong_kind_at c s m ≡ []
  pub wrong_arity : wrong_arity_at c s m ≡ []
  pub two_ranges : two_ranges_at c s m ≡ []
  pub bad_root : bad_root_at c s m ≡ []
  pub after_root : after_root_at c s m ≡ []
  pub wrong_part : wrong_part_at c s m ≡ []

abbrev pub AreFine : List Declared → Seen → List Mention → Type 0
AreFine c s [] = ⊤
AreFine c s (m ∷ ms) = IsFine c s m × AreFine c (seen_behind c s m) ms

-- what is seen behind these, where this was seen before them
abbrev pub behind : List Declared → Seen → List Mention → Seen
behind c s ms = fold (seen_behind c) s ms

pub behind_both : (c : List Declared) (s : Seen) (ms ns : List Mention) → behind c s (ms ++ ns) ≡ behind c (behind c s ms) ns
behind_both c s [] ns = refl
behind_both c s (m ∷ ms) ns = behind_both c (seen_behind c s m) ms ns

pub fine_front : (c : List Declared) (s : Seen) (ms ns : List Mention) → AreFine c s (ms ++ ns) → AreFine c s ms
fine_front c s [] ns h = tt
fine_front c s (m ∷ ms) ns h = (h.0, fine_front c (seen_behind c s m) ms ns h.1)

pub fine_back : (c : List Declared) (s : Seen) (ms ns : List Mention) → AreFine c s (ms ++ ns) → AreFine c (behind c s ms) ns
fine_back c s [] ns h = h
fine_back c s (m ∷ ms) ns h = fine_back c (seen_behind c s m) ms ns h.1

pub so_not : (b : Bool) (at : ℕ) → where_so b at ≡ [] → b ≡ false
so_not true at h = absurd (cc)
so_not false at h = refl

-- ---- nothing found

pub front_none : {A : Type 0} (xs ys : List A) → xs ++ ys ≡ [] → xs ≡ []
front_none [] ys h = refl
front_none (x ∷ xs) ys h = absurd (cc)

pub back_none : {A : Type 0} (xs ys : List A) → xs ++ ys ≡ [] → ys ≡ []
back_none [] ys h = h
back_none (x ∷ xs) ys h = absurd (cc)

abbrev At : Type 0
At = List Declared → Seen → Mention → List ℕ

abbrev found : At → List Declared → List (List Mention × Mention) → List ℕ
found at c es = flat_map (λ m. at c (seen c m.0) m.1) es

-- nothing is found at these with those before them
record Clean (c : List Declared) (es : List (List Mention × Mention)) : Type 0 where
  undefined : found undefined_at c es ≡ []
  redefined : found redefined_at c es ≡ []
  wrong_kind : found wrong_kind_at c es ≡ []
  wrong_arity : found wrong_arity_at c es ≡ []
  two_ranges : found two_ranges_at c es ≡ []
  bad_root : found bad_root_at c es ≡ []
  after_root : found after_root_at c es ≡ []
  wrong_part : found wrong_part_at c es ≡ []

first_clean : (c : List Declared) (e : List Mention × Mention) (es : List (List Mention × Mention)) → Clean c (e ∷ es) → IsFine c (seen c e.0) e.1
first_clean c e es h = record {
  undefined = front_none (undefined_at c (seen c e.0) e.1) (found undefined_at c es) h.undefined;
  redefined = front_none (redefined_at c (seen c e.0) e.1) (found redefined_at c es) h.redefined;
  wrong_kind = front_none (wrong_kind_at c (seen c e.0) e.1) (found wrong_kind_at c es) h.wrong_kind;
  wrong_arity = front_none (wrong_arity_at c (seen c e.0) e.1) (found wrong_arity_at c es) h.wrong_arity;
  two_ranges = front_none (two_ranges_at c (seen c e.0) e.1) (found two_ranges_at c es) h.two_ranges;
  bad_root = front_none (bad_root_at c (seen c e.0) e.1) (found bad_root_at c es) h.bad_root;
  after_root = front_none (after_root_at c (seen c e.0) e.1) (found after_root_at c es) h.after_root;
  wrong_part = front_none (wrong_part_at c (seen c e.0) e.1) (found wrong_part_at c es) h.wrong_part;
}

others_clean : (c : List Declared) (e : List Mention × Mention) (es : List (List Mention × Mention)) → Clean c (e ∷ es) → Clean c es
others_clean c e es h = record {
  undefined = back_none (undefined_at c (seen c e.0) e.1) (found undefined_at c es) h.undefined;
  redefined = back_none (redefined_at c (seen c e.0) e.1) (found redefined_at c es) h.redefined;
  wrong_kind = back_none (wrong_kind_at c (seen c e.0) e.1) (found wrong_kind_at c es) h.wrong_kind;
  wrong_arity = back_none (wrong_arity_at c (seen c e.0) e.1) (found wrong_arity_at c es) h.wrong_arity;
  two_ranges = back_none (two_ranges_at c (seen c e.0) e.1) (found two_ranges_at c es) h.two_ranges;
  bad_root = back_none (bad_root_at c (seen c e.0) e.1) (found bad_root_at c es) h.bad_root;
  after_root = back_none (after_root_at c (seen c e.0) e.1) (found after_root_at c es) h.after_root;
  wrong_part = back_none (wrong_part_at c (seen c e.0) e.1) (found wrong_part_at c es) h.wrong_part;
}

fold_more : {A B : Type 0} (f : B → A → B) (b : B) (xs : List A) (x : A) → fold f b (xs ++ x ∷ []) ≡ f (fold f b xs) x
fold_more f b [] x = refl
fold_more f b (y ∷ xs) x = fold_more f (f b y) xs x

all_fine : (c : List Declared) (before ms : List Mention) → Clean c (with_those_before before ms) → AreFine c (seen c before) ms
all_fine c before [] h = tt
all_fine c before (m ∷ ms) h =
    let es = with_those_before (before ++ m ∷ []) ms in
    (first_clean c (before, m) es h, subst (λ s. AreFine c s ms) (fold_more (seen_behind c) nothing before m) (all_fine c (before ++ m ∷ []) ms (others_clean c (before, m) es h)))

-- ---- a declaration

either_some : (b : Bool) (f g : PatFault) → cond b (Some f) (Some g) ≡ None → ⊥
either_some true f g h = cc
either_some false f g h = cc

with_some : (f : PatFault) (o : Option PatFault) → first_with f o ≡ None → ⊥
with_some f None h = cc
with_some f (Some g) h = either_some (is_before g f) g f h

no_first : (fs : List PatFault) → first_of_faults fs ≡ None → fs ≡ []
no_first [] h = refl
no_first (f ∷ fs) h = absurd (with_some f (first_of_faults fs) h)

no_faults : (k : PatKind) (places : List ℕ) → faults k places ≡ [] → places ≡ []
no_faults k [] h = refl
no_faults k (p ∷ ps) h = absurd (cc)

pub are_fine : (c : List Declared) (d : Decl) → decl_fault c d ≡ None → AreFine c nothing (mentions c d)
unfolding faults_of found_in
are_fine c d h =
    let es = with_those_before [] (mentions c d) in
    let a = no_first _ h in
    let b = back_none (faults Undefined (found undefined_at c es)) _ a in
    let e = back_none (faults Redefined (found redefined_at c es)) _ b in
    let f = back_none (faults WrongKind (found wrong_kind_at c es)) _ e in
    let g = back_none (faults WrongArity (found wrong_arity_at c es)) _ f in
    let i = back_none (faults UnknownNative (found unknown_native_at c es)) _ g in
    let j = back_none (faults BadLiteral (found bad_literal_at c es)) _ i in
    let k = back_none (faults TwoRanges (found two_ranges_at c es)) _ j in
    let l = back_none (faults NoResultTypes (found no_result_types_at c es)) _ k in
    let m = back_none (faults BadRoot (found bad_root_at c es)) _ l in
    let n = back_none (faults AfterRoot (found after_root_at c es)) _ m in
    all_fine c [] (mentions c d) (record {
      undefined = no_faults Undefined (found undefined_at c es) (front_none _ _ a);
      redefined = no_faults Redefined (found redefined_at c es) (front_none _ _ b);
      wrong_kind = no_faults WrongKind (found wrong_kind_at c es) (front_none _ _ e);
      wrong_arity = no_faults WrongArity (found wrong_arity_at c es) (front_none _ _ f);
      two_ranges = no_faults TwoRanges (found two_ranges_at c es) (front_none _ _ j);
      bad_root = no_faults BadRoot (found bad_root_at c es) (front_none _ _ l);
      after_root = no_faults AfterRoot (found after_root_at c es) (front_none _ _ m);
      wrong_part = no_faults WrongPart (found wrong_part_at c es) n;
    })
