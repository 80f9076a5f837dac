-- The longest gap at a place.
use Rattle.std.proofs.Common.{◌≡◌, ℕ, suc, ◌+◌, ◌<◌, ◌≤◌, Bool, true, false, cond, not, List, [], ◌∷◌, ◌++◌, length, take, drop, refl, ap, sym, subst, ◌∙◌, arith, one-add, inl, inr, eqb-true}
use Rattle.std.specs.Prelude.{◌==◌, ◌⊎◌, slice_index}
use Rattle.std.specs.List.{prefix_len, concat, AllByRecursion}
use Rattle.std.proofs.lemmas.Bool.{and_parts, true≢false}
use Rattle.std.proofs.lemmas.List.{drop-drop}
use Rattle.text_scan.specs.Bytes.{AllAre, is_space, is_line_feed, is_in}
use Rattle.byte_lanes.specs.declared.class.Class.TheVariants.{Line, Space}
use Rattle.text_scan.specs.Longest.{IsLongest}
use Rattle.text_scan.proofs.Fronts.{longest_from}
use Rattle.text_scan.proofs.Runs.{prefix_len-behind}
use Rattle.text_scan.specs.Gaps.{IsGap, IsSpace, IsComment, gap_len, comment_len, starts_comment}

-- what a comment leaves: the rest of its line, and a gap
RestOfComment : List ℕ → Type 0
RestOfComment text = (line gap : List ℕ) × AllAre (λ b. not (is_line_feed b)) line × IsGap gap × (text ≡ line ++ gap)

abbrev Forms : List ℕ → Type 0
Forms s = IsGap (take (gap_len s) s) × RestOfComment (take (comment_len s) s)

no_gap : IsGap []
no_gap = ([], tt, refl)

space_then : (b : ℕ) (t : List ℕ) → is_space b ≡ true → IsGap t → IsGap (b ∷ t)
space_then b t is (ps, all, e) = ((b ∷ []) ∷ ps, (inl (b, refl, is), all), ap (λ u. b ∷ u) e)

comment_then : (t : List ℕ) → RestOfComment t → IsGap (47 ∷ 47 ∷ t)
unfolding RestOfComment
comment_then t (line, gap, all, (ps, each, same), e) =
    ((47 ∷ 47 ∷ line) ∷ ps, (inr (line, refl, all), each), ap (λ u. 47 ∷ 47 ∷ u) (e ∙ ap (λ u. line ++ u) same))

rest_ends : (t : List ℕ) → IsGap t → RestOfComment t
unfolding RestOfComment
rest_ends t g = ([], t, tt, g, refl)

rest_goes_on : (b : ℕ) (t : List ℕ) → is_line_feed b ≡ false → RestOfComment t → RestOfComment (b ∷ t)
unfolding RestOfComment
rest_goes_on b t is (line, gap, all, g, e) = (b ∷ line, gap, (ap not is, all), g, ap (λ u. b ∷ u) e)

starts_with : (b c : ℕ) (s : List ℕ) → starts_comment (b ∷ c ∷ s) ≡ true → (b ≡ 47) × (c ≡ 47)
starts_with b c s h = let p = and_parts (b == 47) (c == 47) h in (eqb-true b 47 p.0, eqb-true c 47 p.1)

starts_alone : (b : ℕ) → starts_comment (b ∷ []) ≡ true → ⊥
starts_alone b h = true≢false (sym (and_parts (b == 47) false h).1)

rest_form : (b : ℕ) (s : List ℕ) (f : Bool) → is_line_feed b ≡ f → Forms s → RestOfComment (take (cond f (suc (gap_len s)) (suc (comment_len s))) (b ∷ s))
rest_form b s true is h = rest_ends _ (space_then b _ (rw (eqb-true b 10 is) refl) h.0)
rest_form b s false is h = rest_goes_on b _ is h.1

one_form : (b : ℕ) (p q : Bool) → is_space b ≡ p → starts_comment (b ∷ []) ≡ q → IsGap (take (cond p 1 (cond q 1 0)) (b ∷ []))
one_form b true q is begins = space_then b [] is no_gap
one_form b false true is begins = absurd (starts_alone b begins)
one_form b false false is begins = no_gap

gap_form : (b c : ℕ) (s : List ℕ) (p q : Bool) → is_space b ≡ p → starts_comment (b ∷ c ∷ s) ≡ q → Forms s → Forms (c ∷ s) → IsGap (take (cond p (suc (gap_len (c ∷ s))) (cond q (suc (comment_len (c ∷ s))) 0)) (b ∷ c ∷ s))
gap_form b c s true q is begins h k = space_then b _ is k.0
gap_form b c s false true is begins h k =
    let (first, second) = starts_with b c s begins in
    rw (first, second) (comment_then _ h.1)
gap_form b c s false false is begins h k = no_gap

forms : (s : List ℕ) → Forms s
forms [] = (no_gap, rest_ends [] no_gap)
forms (b ∷ []) = (one_form b (is_space b) (starts_comment (b ∷ [])) refl refl, rest_form b [] (is_line_feed b) refl (forms []))
forms (b ∷ c ∷ s) =
    (gap_form b c s (is_space b) (starts_comment (b ∷ c ∷ s)) refl refl (forms s) (forms (c ∷ s)), rest_form b (c ∷ s) (is_line_feed b) refl (forms (c ∷ s)))

below_by : (b : ℕ) (s : List ℕ) (p q f : Bool) → is_space b ≡ p → is_line_feed b ≡ f → gap_len s ≤ comment_len s → cond p (suc (gap_len s)) (cond q (suc (comment_len s)) 0) ≤ cond f (suc (gap_len s)) (suc (comment_len s))
below_by b s true q true is at h = omega arith
below_by b s true q false is at h = omega arith
below_by b s false q true is at h = absurd (let e : is_space b ≡ true = rw (eqb-true b 10 at) refl in cc)
below_by b s false true false is at h = omega arith
below_by b s false false false is at h = omega arith

-- a comment takes no less than a gap does
gap_len-le-comment : (s : List ℕ) → gap_len s ≤ comment_len s
gap_len-le-comment [] = omega arith
gap_len-le-comment (b ∷ s) = below_by b s (is_space b) (starts_comment (b ∷ s)) (is_line_feed b) refl refl (gap_len-le-comment s)

not_true : (b : Bool) → not b ≡ true → b ≡ false
not_true true h = cc
not_true false h = refl

comment_covers : (line gap rest : List ℕ) → AllAre (λ b. not (is_line_feed b)) line → length gap ≤ gap_len (gap ++ rest) → length (line ++ gap) ≤ comment_len ((line ++ gap) ++ rest)
comment_covers [] gap rest all h = let k = gap_len-le-comment (gap ++ rest) in omega arith
comment_covers (b ∷ line) gap rest all h =
    rw (not_true (is_line_feed b) all.0) (let k = comment_covers line gap rest all.1 h in omega arith)

piece_covers : (piece gap rest : List ℕ) → IsSpace piece ⊎ IsComment piece → length gap ≤ gap_len (gap ++ rest) → length (piece ++ gap) ≤ gap_len ((piece ++ gap) ++ rest)
piece_covers piece gap rest (inl (b, e, is)) h = rw e (rw is (omega arith))
piece_covers piece gap rest (inr (line, e, all)) h = rw e (let k = comment_covers line gap rest all h in omega arith)

covers : (pieces : List (List ℕ)) (rest : List ℕ) → AllByRecursion (λ piece. IsSpace piece ⊎ IsComment piece) pieces → length (concat pieces) ≤ gap_len (concat pieces ++ rest)
covers [] rest all = omega arith
covers (piece ∷ pieces) rest all = piece_covers piece (concat pieces) rest all.0 (covers pieces rest all.1)

-- a gap at the front of a text is at most the longest one
gap_covers : (gap rest : List ℕ) → IsGap gap → length gap ≤ gap_len (gap ++ rest)
gap_covers gap rest (pieces, all, e) = rw e (covers pieces rest all)

shorter_by : (b : ℕ) (s : List ℕ) (p q f : Bool) → gap_len s ≤ length s → comment_len s ≤ length s → (cond p (suc (gap_len s)) (cond q (suc (comment_len s)) 0) ≤ suc (length s)) × (cond f (suc (gap_len s)) (suc (comment_len s)) ≤ suc (length s))
shorter_by b s true q true g k = (omega arith, omega arith)
shorter_by b s true q false g k = (omega arith, omega arith)
shorter_by b s false true true g k = (omega arith, omega arith)
shorter_by b s false true false g k = (omega arith, omega arith)
shorter_by b s false false true g k = (omega arith, omega arith)
shorter_by b s false false false g k = (omega arith, omega arith)

shorter : (s : List ℕ) → (gap_len s ≤ length s) × (comment_len s ≤ length s)
shorter [] = (omega arith, omega arith)
shorter (b ∷ s) = shorter_by b s (is_space b) (starts_comment (b ∷ s)) (is_line_feed b) (shorter s).0 (shorter s).1

-- the longest gap at a place
pub gap_is_longest : (bytes : List ℕ) (at end : ℕ) → at ≤ length bytes → end ≡ at + gap_len (drop at bytes) → IsLongest IsGap bytes at end
gap_is_longest bytes at end within is =
    rw is (longest_from IsGap bytes at (gap_len (drop at bytes)) within (shorter (drop at bytes)).0 (forms (drop at bytes)).0
    (λ front rest e form. rw e (gap_covers front rest form)))

-- the steps of a scan

abbrev spaces : List ℕ → ℕ
spaces s = prefix_len (is_in Space) s

abbrev line : List ℕ → ℕ
line s = prefix_len (is_in Line) s

abbrev no_space : ℕ → List ℕ → ℕ
no_space b s = cond (starts_comment (b ∷ s)) (suc (comment_len s)) 0

spaces_by : (b : ℕ) (s : List ℕ) (p : Bool) → is_space b ≡ p → gap_len s ≡ spaces s + gap_len (drop (spaces s) s) → cond p (suc (gap_len s)) (no_space b s) ≡ cond p (1 + spaces s) 0 + gap_len (drop (cond p (1 + spaces s) 0) (b ∷ s))
spaces_by b s true is h = rw one-add (omega arith)
spaces_by b s false is h = let e : gap_len (b ∷ s) ≡ no_space b s = rw is refl in omega (arith, e)

-- the spaces at the front
gap_spaces : (s : List ℕ) → gap_len s ≡ spaces s + gap_len (drop (spaces s) s)
gap_spaces [] = refl
gap_spaces (b ∷ s) = spaces_by b s (is_space b) refl (gap_spaces s)

line_by : (b : ℕ) (s : List ℕ) (f : Bool) → is_line_feed b ≡ f → comment_len s ≡ line s + gap_len (drop (line s) s) → cond f (suc (gap_len s)) (suc (comment_len s)) ≡ cond (not f) (1 + line s) 0 + gap_len (drop (cond (not f) (1 + line s) 0) (b ∷ s))
line_by b s true is h = rw (eqb-true b 10 is) (omega arith)
line_by b s false is h = rw one-add (omega arith)

-- the rest of a comment
comment_line : (s : List ℕ) → comment_len s ≡ line s + gap_len (drop (line s) s)
comment_line [] = refl
comment_line (b ∷ s) = line_by b s (is_line_feed b) refl (comment_line s)

comment_begins : (b : ℕ) (s : List ℕ) → starts_comment (b ∷ s) ≡ true → b ≡ 47
comment_begins b s h = eqb-true b 47 (and_parts (b == 47) (slice_index s 0 == 47) h).0

-- a comment at the front
gap_comment : (s : List ℕ) → starts_comment s ≡ true → (gap_len s ≡ line s + gap_len (drop (line s) s)) × (0 < line s)
gap_comment [] h = absurd (cc)
gap_comment (b ∷ s) h =
    let first = comment_begins b s h in
    let begins : starts_comment (47 ∷ s) ≡ true = subst (λ x. starts_comment (x ∷ s) ≡ true) first h in
    rw first (rw begins (rw one-add (let e = comment_line s in (omega arith, omega arith))))

-- neither a space nor a comment at the front
gap_stops : (s : List ℕ) → spaces s ≡ 0 → starts_comment s ≡ false → gap_len s ≡ 0
gap_stops [] e h = refl
gap_stops (b ∷ s) e h = stops_by b s (is_space b) e h
  where
    stops_by : (b : ℕ) (s : List ℕ) (p : Bool) → cond p (1 + spaces s) 0 ≡ 0 → starts_comment (b ∷ s) ≡ false → cond p (suc (gap_len s)) (no_space b s) ≡ 0
    stops_by b s true e h = absurd (omega arith)
    stops_by b s false e h = rw h refl

-- the gap goes on behind the spaces at a place
pub past_spaces : (bytes : List ℕ) (at n : ℕ) → n ≡ spaces (drop at bytes) → (at + gap_len (drop at bytes) ≡ (at + n) + gap_len (drop (at + n) bytes)) × (spaces (drop (at + n) bytes) ≡ 0)
past_spaces bytes at n e =
    rw (← drop-drop n at bytes) (rw e (let k = gap_spaces (drop at bytes) in (omega arith, prefix_len-behind (is_in Space) (drop at bytes))))

-- the gap goes on behind the line of a comment at a place
pub past_comment : (bytes : List ℕ) (at n : ℕ) → n ≡ line (drop at bytes) → starts_comment (drop at bytes) ≡ true → (at + gap_len (drop at bytes) ≡ (at + n) + gap_len (drop (at + n) bytes)) × (0 < n)
past_comment bytes at n e h =
    rw (← drop-drop n at bytes) (rw e (let (k, some) = gap_comment (drop at bytes) h in (omega arith, some)))

-- the gap ends at a place with neither
pub gap_ends : (bytes : List ℕ) (at : ℕ) → spaces (drop at bytes) ≡ 0 → starts_comment (drop at bytes) ≡ false → at + gap_len (drop at bytes) ≡ at
gap_ends bytes at e h = let k = gap_stops (drop at bytes) e h in omega arith
