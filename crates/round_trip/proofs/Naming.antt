-- The names that are printed: each is that of one definition of the file.
use Rattle.std.proofs.Common.{◌≡◌, ℕ, zero, suc, ◌+◌, Bool, true, false, if◌then◌else◌, List, [], ◌∷◌, ◌++◌, length, take, refl, ap, sym, subst, ◌∙◌, arith, inl, inr, Some}
use Rattle.std.specs.Prelude.{◌⊎◌, slice_get}
use Rattle.std.specs.List.{AllByRecursion, flat_map}
use Rattle.std.proofs.lemmas.Option.{none-some, same_Some}
use Rattle.mlir_tree.specs.declared.row.Row.{Row}
use Rattle.mlir_tree.specs.declared.value.Val.TheVariants.{Res, Arg}
use Rattle.mlir_tree.specs.Tree.{Ty}
use Rattle.mlir_print.specs.Numbering.{has_results, argument_number}
use Rattle.mlir_tree.proofs.Places.{IsAt}
use Rattle.mlir_parse.specs.declared.syn.SynArg.{SynArg}
use Rattle.mlir_parse.specs.declared.syn.SynResult.{SynResult}
use Rattle.mlir_resolve.specs.Laid.{Laid}
use Rattle.mlir_resolve.specs.Sight.{Definition, result_definitions, argument_definitions, region_definitions, row_definitions, definitions}
use Rattle.round_trip.proofs.Parts.{Fits}
use Rattle.round_trip.proofs.Uses.{result_name, argument_name, AreResultsOf}
use Rattle.round_trip.proofs.RowTree.{IsArgumentOf}
use Rattle.round_trip.proofs.Laying.{AreArgumentsOf, IsLaidAs, ArePairs}

-- ---- the definitions of rows

module _ (rows : List Row) where
  abbrev pub result_def : ℕ → Row → Definition
  result_def k r = record { name = result_name rows r.id; first = Res k 0; types = r.results }

  abbrev pub argument_def : ℕ → Row → ℕ → ℕ → Ty → Definition
  argument_def k r g i t = record { name = argument_name (argument_number rows r.id g i); first = Arg k g i; types = t ∷ [] }

  abbrev pub result_defs : ℕ → Row → List Definition
  result_defs k r = if has_results r then result_def k r ∷ [] else []

  abbrev pub argument_defs : ℕ → Row → ℕ → ℕ → List Ty → List Definition
  argument_defs k r g i [] = []
  argument_defs k r g i (t ∷ ts) = argument_def k r g i t ∷ argument_defs k r g (suc i) ts

  abbrev pub region_defs : ℕ → Row → ℕ → List (List Ty) → List Definition
  region_defs k r g [] = []
  region_defs k r g (ts ∷ regions) = argument_defs k r g 0 ts ++ region_defs k r (suc g) regions

  abbrev pub row_defs : ℕ → Row → List Definition
  row_defs k r = result_defs k r ++ region_defs k r 0 r.regions

  abbrev pub all_defs : ℕ → List Row → List Definition
  all_defs k [] = []
  all_defs k (r ∷ rs) = row_defs k r ++ all_defs (suc k) rs

  -- ---- those that are read

  whole : {X : Type 0} (xs : List X) → take (length xs) xs ≡ xs
  whole [] = refl
  whole (x ∷ xs) = ap (λ t. x ∷ t) (whole xs)

  results_are : (k : ℕ) (r : Row) (l : Laid) (xs : List SynResult) → l.id ≡ k → l.head.result_types ≡ r.results → AreResultsOf rows r xs → result_definitions l.id 0 xs l.head.result_types ≡ result_defs k r
  results_are k r l [] id types is = ap (λ b. if b then result_def k r ∷ [] else []) (sym is)
  results_are k r l (x ∷ []) id types (some, name, count) =
      let taken : take x.count l.head.result_types ≡ r.results = (λ j. take (count j) (types j)) ∙ whole r.results in
      (λ j. record { name = name j; first = Res (id j) 0; types = taken j } ∷ []) ∙ ap (λ b. if b then result_def k r ∷ [] else []) (sym some)
  results_are k r l (x ∷ (y ∷ more)) id types is = absurd is

  arguments_are : (k : ℕ) (r : Row) (d g i : ℕ) (ts : List Ty) (xs : List SynArg) → d ≡ k → Fits (IsArgumentOf rows r.id g) i ts xs → argument_definitions d g i xs ≡ argument_defs k r g i ts
  arguments_are k r d g i [] [] id h = refl
  arguments_are k r d g i [] (x ∷ xs) id h = absurd h
  arguments_are k r d g i (t ∷ ts) [] id h = absurd h
  arguments_are k r d g i (t ∷ ts) (x ∷ xs) id h =
      let next : i + 1 ≡ suc i = omega arith in
      (λ j. record { name = h.0.name j; first = Arg (id j) g i; types = h.0.type j ∷ [] } ∷ argument_definitions d g (next j) xs)
      ∙ ap (λ t'. argument_def k r g i t ∷ t') (arguments_are k r d g (suc i) ts xs id h.1)

  regions_are : (k : ℕ) (r : Row) (d g : ℕ) (regions : List (List Ty)) (xs : List (List SynArg)) → d ≡ k → AreArgumentsOf rows r.id g regions xs → region_definitions d g xs ≡ region_defs k r g regions
  regions_are k r d g [] [] id h = refl
  regions_are k r d g [] (x ∷ xs) id h = absurd h
  regions_are k r d g (ts ∷ regions) [] id h = absurd h
  regions_are k r d g (ts ∷ regions) (x ∷ xs) id h =
      let next : g + 1 ≡ suc g = omega arith in
      (λ j. arguments_are k r d g 0 ts x id h.0 j ++ region_definitions d (next j) xs) ∙ ap (λ t. argument_defs k r g 0 ts ++ t) (regions_are k r d (suc g) regions xs id h.1)

  row_is : (k : ℕ) (r : Row) (l : Laid) → IsLaidAs rows k r l → row_definitions l ≡ row_defs k r
  row_is k r l h = λ j. results_are k r l l.head.results h.id h.head.result_types h.head.results j ++ regions_are k r l.id 0 r.regions l.arguments h.id h.arguments j

  all_from : (k : ℕ) (rs : List Row) (ls : List Laid) → ArePairs (IsLaidAs rows) k rs ls → flat_map row_definitions ls ≡ all_defs k rs
  all_from k [] [] h = refl
  all_from k [] (l ∷ ls) h = absurd h
  all_from k (r ∷ rs) [] h = absurd h
  all_from k (r ∷ rs) (l ∷ ls) h = λ j. row_is k r l h.0 j ++ all_from (suc k) rs ls h.1 j

  pub definitions_are : (ls : List Laid) → ArePairs (IsLaidAs rows) 0 rows ls → definitions ls ≡ all_defs 0 rows
  unfolding definitions
  definitions_are ls h = all_from 0 rows ls h

  -- ---- each is made by a row

  pub record IsResultDef (d : Definition) : Type 0 where
    pub place : ℕ
    pub row : Row
    pub there : IsAt rows place row
    pub some : has_results row ≡ true
    pub is : d ≡ result_def place row

  pub record IsArgumentDef (d : Definition) : Type 0 where
    pub place : ℕ
    pub row : Row
    pub region : ℕ
    pub number : ℕ
    pub types : List Ty
    pub type : Ty
    pub there : IsAt rows place row
    pub region_is : slice_get row.regions region ≡ Some types
    pub type_is : slice_get types number ≡ Some type
    pub is : d ≡ argument_def place row region number type

  abbrev pub IsMade : Definition → Type 0
  IsMade d = IsResultDef d ⊎ IsArgumentDef d

  join_all : (P : Definition → Type 0) (xs ys : List Definition) → AllByRecursion P xs → AllByRecursion P ys → AllByRecursion P (xs ++ ys)
  join_all P [] ys x y = y
  join_all P (d ∷ xs) ys x y = (x.0, join_all P xs ys x.1 y)

  results_made : (k : ℕ) (r : Row) → IsAt rows k r → AllByRecursion IsMade (result_defs k r)
  results_made k r at_r = by_test (has_results r) refl
    where
      by_test : (b : Bool) → has_results r ≡ b → AllByRecursion IsMade (if b then result_def k r ∷ [] else [])
      by_test true is = (inl (record { place = k; row = r; there = at_r; some = is; is = refl }), tt)
      by_test false is = tt

  behind_at : {X : Type 0} (x : X) (pre xs : List X) → slice_get (pre ++ x ∷ xs) (length pre) ≡ Some x
  behind_at x [] xs = refl
  behind_at x (y ∷ pre) xs = behind_at x pre xs

  more_of : {X : Type 0} (x : X) (pre xs : List X) → (pre ++ x ∷ []) ++ xs ≡ pre ++ x ∷ xs
  more_of x [] xs = refl
  more_of x (y ∷ pre) xs = ap (λ t. y ∷ t) (more_of x pre xs)

  longer : {X : Type 0} (x : X) (pre : List X) → length (pre ++ x ∷ []) ≡ suc (length pre)
  longer x [] = refl
  longer x (y ∷ pre) = ap suc (longer x pre)

  arguments_made : (k : ℕ) (r : Row) (g : ℕ) (all : List Ty) → IsAt rows k r → slice_get r.regions g ≡ Some all → (pre ts : List Ty) (i : ℕ) → all ≡ pre ++ ts → length pre ≡ i → AllByRecursion IsMade (argument_defs k r g i ts)
  arguments_made k r g all at_r region_is pre [] i split len = tt
  arguments_made k r g all at_r region_is pre (t ∷ ts) i split len = (
    inr (record { place = k; row = r; region = g; number = i; types = all; type = t; there = at_r; region_is = region_is; type_is = subst (λ n. slice_get all n ≡ Some t) len (subst (λ x. slice_get x (length pre) ≡ Some t) (sym split) (behind_at t pre ts)); is = refl }),
    arguments_made k r g all at_r region_is (pre ++ t ∷ []) ts (suc i) (split ∙ sym (more_of t pre ts)) (longer t pre ∙ ap suc len),
  )

  regions_made : (k : ℕ) (r : Row) → IsAt rows k r → (pre regions : List (List Ty)) (g : ℕ) → r.regions ≡ pre ++ regions → length pre ≡ g → AllByRecursion IsMade (region_defs k r g regions)
  regions_made k r at_r pre [] g split len = tt
  regions_made k r at_r pre (ts ∷ regions) g split len =
      let here : slice_get r.regions g ≡ Some ts = subst (λ n. slice_get r.regions n ≡ Some ts) len (subst (λ x. slice_get x (length pre) ≡ Some ts) (sym split) (behind_at ts pre regions)) in
      join_all IsMade (argument_defs k r g 0 ts) (region_defs k r (suc g) regions) (arguments_made k r g ts at_r here [] ts 0 refl refl)
      (regions_made k r at_r (pre ++ ts ∷ []) regions (suc g) (split ∙ sym (more_of ts pre regions)) (longer ts pre ∙ ap suc len))

  all_made : (pre rs : List Row) (k : ℕ) → rows ≡ pre ++ rs → length pre ≡ k → AllByRecursion IsMade (all_defs k rs)
  all_made pre [] k split len = tt
  all_made pre (r ∷ rs) k split len =
      let at_r : IsAt rows k r = subst (λ n. IsAt rows n r) len (subst (λ x. IsAt x (length pre) r) (sym split) (behind_at r pre rs)) in
      join_all IsMade (row_defs k r) (all_defs (suc k) rs) (join_all IsMade (result_defs k r) (region_defs k r 0 r.regions) (results_made k r at_r) (regions_made k r at_r [] r.regions 0 refl refl))
      (all_made (pre ++ r ∷ []) rs (suc k) (split ∙ sym (more_of r pre rs)) (longer r pre ∙ ap suc len))

  pub made : AllByRecursion IsMade (all_defs 0 rows)
  made = all_made [] rows 0 refl refl

  -- ---- each that a row makes is there

  abbrev pub IsIn : Definition → List Definition → Type 0
  IsIn d [] = ⊥
  IsIn d (x ∷ xs) = (d ≡ x) ⊎ IsIn d xs

  in_front : (d : Definition) (xs ys : List Definition) → IsIn d xs → IsIn d (xs ++ ys)
  in_front d [] ys h = absurd h
  in_front d (x ∷ xs) ys (inl h) = inl h
  in_front d (x ∷ xs) ys (inr h) = inr (in_front d xs ys h)

  in_back : (d : Definition) (xs ys : List Definition) → IsIn d ys → IsIn d (xs ++ ys)
  in_back d [] ys h = h
  in_back d (x ∷ xs) ys h = inr (in_back d xs ys h)

  row_in : (d : Definition) (k : ℕ) (rs : List Row) (j : ℕ) (r : Row) → IsAt rs j r → IsIn d (row_defs (k + j) r) → IsIn d (all_defs k rs)
  row_in d k [] j r at_r h = absurd (none-some r at_r)
  row_in d k (x ∷ rs) zero r at_r h =
      in_front d (row_defs k x) (all_defs (suc k) rs) (subst (λ t. IsIn d (row_defs k t)) (sym (same_Some x r at_r)) (subst (λ n. IsIn d (row_defs n r)) (let e : k + 0 ≡ k = omega arith in e) h))
  row_in d k (x ∷ rs) (suc j) r at_r h = in_back d (row_defs k x) (all_defs (suc k) rs) (row_in d (suc k) rs j r at_r (subst (λ n. IsIn d (row_defs n r)) (let e : k + suc j ≡ suc k + j = omega arith in e) h))

  arguments_in_list : (k : ℕ) (r : Row) (g i : ℕ) (ts : List Ty) (j : ℕ) (t : Ty) → slice_get ts j ≡ Some t → IsIn (argument_def k r g (i + j) t) (argument_defs k r g i ts)
  arguments_in_list k r g i [] j t h = absurd (none-some t h)
  arguments_in_list k r g i (x ∷ ts) zero t h = inl (λ n. argument_def k r g (same n) (sym (same_Some x t h) n))
    where
      same : i + 0 ≡ i
      same = omega arith
  arguments_in_list k r g i (x ∷ ts) (suc j) t h =
      inr (subst (λ n. IsIn (argument_def k r g n t) (argument_defs k r g (suc i) ts)) (let e : suc i + j ≡ i + suc j = omega arith in e) (arguments_in_list k r g (suc i) ts j t h))

  regions_in_list : (d : Definition) (k : ℕ) (r : Row) (g : ℕ) (regions : List (List Ty)) (j : ℕ) (ts : List Ty) → slice_get regions j ≡ Some ts → IsIn d (argument_defs k r (g + j) 0 ts) → IsIn d (region_defs k r g regions)
  regions_in_list d k r g [] j ts at h = absurd (none-some ts at)
  regions_in_list d k r g (x ∷ regions) zero ts at h =
      in_front d (argument_defs k r g 0 x) (region_defs k r (suc g) regions)
      (subst (λ y. IsIn d (argument_defs k r g 0 y)) (sym (same_Some x ts at)) (subst (λ n. IsIn d (argument_defs k r n 0 ts)) (let e : g + 0 ≡ g = omega arith in e) h))
  regions_in_list d k r g (x ∷ regions) (suc j) ts at h =
      in_back d (argument_defs k r g 0 x) (region_defs k r (suc g) regions)
      (regions_in_list d k r (suc g) regions j ts at (subst (λ n. IsIn d (argument_defs k r n 0 ts)) (let e : g + suc j ≡ suc g + j = omega arith in e) h))

  pub result_in : (k : ℕ) (r : Row) → IsAt rows k r → has_results r ≡ true → IsIn (result_def k r) (all_defs 0 rows)
  result_in k r at_r some =
      row_in (result_def k r) 0 rows k r at_r (subst (λ n. IsIn (result_def k r) (row_defs n r)) (let e : k ≡ 0 + k = omega arith in e)
      (in_front (result_def k r) (result_defs k r) (region_defs k r 0 r.regions) (subst (λ b. IsIn (result_def k r) (if b then result_def k r ∷ [] else [])) (sym some) (inl refl))))

  pub argument_in : (k : ℕ) (r : Row) (g i : ℕ) (ts : List Ty) (t : Ty) → IsAt rows k r → slice_get r.regions g ≡ Some ts → slice_get ts i ≡ Some t → IsIn (argument_def k r g i t) (all_defs 0 rows)
  argument_in k r g i ts t at_r region_is type_is =
      let d = argument_def k r g i t in
      let here : IsIn d (argument_defs k r g 0 ts) = subst (λ n. IsIn (argument_def k r g n t) (argument_defs k r g 0 ts)) (let e : 0 + i ≡ i = omega arith in e) (arguments_in_list k r g 0 ts i t type_is) in
      let region : IsIn d (region_defs k r 0 r.regions) = regions_in_list d k r 0 r.regions g ts region_is (subst (λ n. IsIn d (argument_defs k r n 0 ts)) (let e : g ≡ 0 + g = omega arith in e) here) in
      row_in d 0 rows k r at_r (subst (λ n. IsIn d (row_defs n r)) (let e : k ≡ 0 + k = omega arith in e) (in_back d (result_defs k r) (region_defs k r 0 r.regions) region))
