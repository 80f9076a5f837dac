-- The way through a tree gives its rows, or its first fault.
use Rattle.std.proofs.Common.{◌≡◌, ◌<◌, ◌≤◌, ◌+◌, ℕ, suc, List, [], ◌∷◌, ◌++◌, length, map, get_or, Option, Some, None, Result, Ok, refl, sym, ap, subst, ◌∙◌, arith, append_assoc, append-nil}
use Rattle.std.specs.Option.{option_or}
use Rattle.std.proofs.lemmas.List.{length-append, length-map, map-append}
use Rattle.mlir_tree.specs.declared.row.Home.{Home}
use Rattle.mlir_tree.specs.declared.row.Row.{Row}
use Rattle.mlir_attributes.specs.declared.fault.ModFault.{ModFault}
use Rattle.mlir_parse.specs.declared.syn.SynArg.{SynArg}
use Rattle.mlir_parse.specs.SynTree.{Head, Operation, operation, Regions, no_regions, region_then, Operations, no_operations, operation_then, operations}
use Rattle.mlir_parse.specs.Limits.{operation_count, operations_count}
use Rattle.mlir_resolve.specs.Laid.{Laid, region, arguments_of, laid_operation, laid_regions, laid_operations}
use Rattle.mlir_resolve.specs.Sight.{Definition, result_definitions, argument_definitions, meaning_at, is_defined}
use Rattle.mlir_resolve.specs.Scopes.{find_name, lookup}
use Rattle.mlir_resolve.specs.Resolving.{names_at, twice_in, head_fault, results_fault, arguments_fault, operation_fault, regions_fault, operations_fault, or_then, resolved_row}
use Rattle.mlir_resolve.specs.Walk.{State, after, unless, names_in, meaning_in, head_of, head_row, put_arguments, put_results, operation_walk, regions_walk, operations_walk, operations_define}
use Rattle.mlir_resolve.proofs.Spans.{AllAt, all_behind, operation_length, operations_length}
use Rattle.mlir_resolve.proofs.Nested.{blank, around_some}
use Rattle.mlir_resolve.proofs.Shown.{firsts, tree, around, no_values}
use Rattle.mlir_resolve.proofs.Sights.{Outward, outward_below}
use Rattle.mlir_resolve.proofs.Scenes.{front, Placed, placed, Early, early_more, early_region, firsts_same, scene, meaning_is, scene_own, scene_around, scene_outside}
use Rattle.mlir_resolve.proofs.Earlier.{named_result}
use Rattle.mlir_resolve.proofs.Entering.{scene_region, named_argument, arguments_law}
use Rattle.mlir_resolve.proofs.Results.{results_law}

-- ---- steps

after_unless : {A B : Type 0} → (a : Option ModFault) (x : A) (f : A → Result B ModFault) → after (unless a (Ok x)) f ≡ unless a (f x)
after_unless None x f = refl
after_unless (Some e) x f = refl

unless_or : {A : Type 0} → (a b : Option ModFault) (r : Result A ModFault) → unless a (unless b r) ≡ unless (or_then a b) r
unless_or None b r = refl
unless_or (Some e) b r = refl

one_step : {A B : Type 0} → (a b : Option ModFault) (m : Result A ModFault) (x : A) (f : A → Result B ModFault) (y : B) → m ≡ unless a (Ok x) → f x ≡ unless b (Ok y) → after m f ≡ unless (or_then a b) (Ok y)
one_step a b m x f y p q = ap (λ r. after r f) p ∙ (after_unless a x f ∙ (ap (unless a) q ∙ unless_or a b (Ok y)))

pub last_step : {A B : Type 0} → (a : Option ModFault) (m : Result A ModFault) (x : A) (f : A → B) → m ≡ unless a (Ok x) → after m (λ z. Ok (f z)) ≡ unless a (Ok (f x))
last_step a m x f p = ap (λ r. after r (λ z. Ok (f z))) p ∙ after_unless a x (λ z. Ok (f z))

or_three : {A : Type 0} → (a b c : Option A) → option_or (option_or a b) c ≡ option_or a (option_or b c)
or_three None b c = refl
or_three (Some d) b c = refl

some_below : (h x : Home) (n : ℕ) → Some h ≡ Some x → h.row < n → x.row < n
some_below h x n p q = let same : h ≡ x = cc in subst (λ (y : Home). y.row < n) same q

-- ---- places

get_at : (pre : List Laid) (l : Laid) (rest : List Laid) → get_or (pre ++ l ∷ rest) (length pre) blank ≡ l
get_at [] l rest = refl
get_at (x ∷ pre) l rest = get_at pre l rest

look_in : (outer : List (List Definition)) (scope : List Definition) (name : List ℕ) → lookup (outer ++ scope ∷ []) name ≡ meaning_in outer scope name
look_in [] scope name = none_last (find_name name scope)
  where
    none_last : (o : Option Definition) → option_or None o ≡ option_or o None
    none_last None = refl
    none_last (Some d) = refl
look_in (s ∷ outer) scope name =
    ap (λ o. option_or o (find_name name s)) (look_in outer scope name) ∙ or_three (find_name name scope) (lookup outer name) (find_name name s)

abbrev own_names : ℕ → Operation → List Definition
own_names n o = result_definitions n 0 (head_of o).results (head_of o).result_types

own_after : (pre : List Laid) (n m : ℕ) (home : Home) (hs : List Home) (o : Operation) → length pre ≡ n → n < m → AllAt Placed 0 pre → Outward n (home ∷ hs)
    → scene (pre ++ laid_operation n (Some home) o) (home ∷ hs) m home ≡ scene pre (home ∷ hs) n home ++ own_names n o
own_after pre n m home hs (operation h rs) len later all out = scene_own pre n m home hs h rs len later all out

around_after : (pre : List Laid) (n m : ℕ) (home : Home) (hs : List Home) (o : Operation) → length pre ≡ n → n < m → AllAt Placed 0 pre → Outward n (home ∷ hs) → (x : Home) → x.row < home.row
    → scene (pre ++ laid_operation n (Some home) o) (home ∷ hs) m x ≡ scene pre (home ∷ hs) n x
around_after pre n m home hs (operation h rs) len later all out x p = scene_around pre n m home hs h rs len later all out x p

positive_count : (o : Operation) → 1 ≤ operation_count o
positive_count (operation h rs) = omega arith

first_row : ℕ → Option Home → Operation → Laid
first_row n home (operation h rs) = record { id = n; home = home; head = h; arguments = arguments_of rs }

inner_rows : ℕ → Operation → List Laid
inner_rows n (operation h rs) = laid_regions n 0 (suc n) rs

rows_are : (n : ℕ) (home : Option Home) (o : Operation) → laid_operation n home o ≡ first_row n home o ∷ inner_rows n o
unfolding laid_operation first_row inner_rows
rows_are n home (operation h rs) = refl

home_of_first : (n : ℕ) (home : Option Home) (o : Operation) → (first_row n home o).home ≡ home
unfolding first_row
home_of_first n home (operation h rs) = refl

id_of_first : (n : ℕ) (home : Option Home) (o : Operation) → (first_row n home o).id ≡ n
unfolding first_row
id_of_first n home (operation h rs) = refl

head_of_first : (n : ℕ) (home : Option Home) (o : Operation) → (first_row n home o).head ≡ head_of o
unfolding first_row
head_of_first n home (operation h rs) = refl

module _ (o : Operation) (file : List Operation) (known : (name : List ℕ) → operations_define name (operations file) ≡ is_defined (tree o) name) where
  pub within : (pre post : List Laid) (n : ℕ) (home : Option Home) (p : Operation) → tree o ≡ pre ++ (laid_operation n home p ++ post) → length pre ≡ n → n < length (tree o)
  within pre post n home p e len =
      let a = ap length e in
      let b = length-append pre (laid_operation n home p ++ post) in
      let c = length-append (laid_operation n home p) post in
      omega (arith, a, b, c, len, operation_length n home p, positive_count p)

  at_row : (pre post : List Laid) (n : ℕ) (home : Option Home) (p : Operation) → tree o ≡ pre ++ (laid_operation n home p ++ post) → tree o ≡ pre ++ first_row n home p ∷ (inner_rows n p ++ post)
  at_row pre post n home p e = e ∙ ap (λ ls. pre ++ (ls ++ post)) (rows_are n home p)

  pub home_here : (pre post : List Laid) (n : ℕ) (home : Option Home) (p : Operation) → tree o ≡ pre ++ (laid_operation n home p ++ post) → length pre ≡ n → (get_or (tree o) n blank).home ≡ home
  home_here pre post n home p e len =
      (λ i. (get_or (at_row pre post n home p e i) (sym len i) blank).home) ∙ (ap (λ (l : Laid). l.home) (get_at pre (first_row n home p) (inner_rows n p ++ post)) ∙ home_of_first n home p)

  names_are : (outer : List (List Definition)) (scope : List Definition) (n : ℕ) → ((name : List ℕ) → meaning_in outer scope name ≡ meaning_at (tree o) n name) → names_in file outer scope ≡ names_at (tree o) n
  names_are outer scope n f = λ i. record { meaning = λ name. f name i; is_defined = λ name. known name i }

  row_law : (outer : List (List Definition)) (scope : List Definition) (n : ℕ) (home : Option Home) (p : Operation) → ((name : List ℕ) → meaning_in outer scope name ≡ meaning_at (tree o) n name)
      → head_row (names_in file outer scope) n home p ≡ unless (head_fault (names_at (tree o) n) (head_of p)) (Ok (resolved_row (tree o) (first_row n home p)))
  unfolding head_row first_row
  row_law outer scope n home (operation h rs) f = ap (λ names. head_row names n home (operation h rs)) (names_are outer scope n f)

  region_twice : (pre mid post : List Laid) (n g : ℕ) (home : Option Home) (h : Head) (first : List (List SynArg)) (args : List SynArg) (more : List (List SynArg))
      → tree o ≡ pre ++ record { id = n; home = home; head = h; arguments = first ++ args ∷ more } ∷ post → length pre ≡ n → length first ≡ g
      → put_arguments n g 0 args [] ≡ unless (arguments_fault (twice_in (tree o) (Some (region n g))) n g 0 args) (Ok (argument_definitions n g 0 args))
  region_twice pre mid post n g home h first args more e len is_g =
      arguments_law (twice_in (tree o) (Some (region n g))) n g 0 [] args refl (λ before a behind p.
      named_argument o pre post n g (length before) (record { id = n; home = home; head = h; arguments = first ++ args ∷ more }) e len refl first before (a ∷ behind) more a.name (ap (λ xs. first ++ xs ∷ more) p) is_g refl)

  results_here : (pre post : List Laid) (n : ℕ) (home : Home) (hs : List Home) (p : Operation) → tree o ≡ pre ++ (laid_operation n (Some home) p ++ post) → length pre ≡ n → Outward n (home ∷ hs)
      → put_results n (head_of p) (scene pre (home ∷ hs) n home) ≡ unless (results_fault (twice_in (tree o) (Some home)) n (head_of p)) (Ok (scene pre (home ∷ hs) n home ++ own_names n p))
  results_here pre post n home hs p e len out =
      results_law (twice_in (tree o) (Some home)) n (head_of p) (scene pre (home ∷ hs) n home) (λ before r behind q pos.
      named_result o pre (inner_rows n p ++ post) n _ home hs (first_row n (Some home) p) (at_row pre post n (Some home) p e) len (id_of_first n (Some home) p) (home_of_first n (Some home) p) out
      before (r ∷ behind) (head_of p).result_types r.name (ap (λ (x : Head). x.results) (head_of_first n (Some home) p) ∙ q) (ap (λ (x : Head). x.result_types) (head_of_first n (Some home) p)) pos refl)

  abbrev pub rows_for : List Laid → List Row
  rows_for ls = map (resolved_row (tree o)) ls

  mutual
    unfolding operation_walk regions_walk operations_walk operation_fault regions_fault operations_fault laid_operation laid_regions laid_operations first_row

    pub operation_law : (home : Option Home) (p : Operation) (n : ℕ) (pre post : List Laid) (outer : List (List Definition)) (scope : List Definition) (rows : List Row)
        → tree o ≡ pre ++ (laid_operation n home p ++ post) → length pre ≡ n → length rows ≡ n → ((x : Home) → home ≡ Some x → x.row < n)
        → ((name : List ℕ) → meaning_in outer scope name ≡ firsts name (scene pre (around o n) n) (around o n))
        → put_results n (head_of p) scope ≡ unless (results_fault (twice_in (tree o) home) n (head_of p)) (Ok (scope ++ own_names n p))
        → operation_walk file outer home p (scope, rows) ≡ unless (operation_fault (tree o) n home p) (Ok (scope ++ own_names n p, rows ++ rows_for (laid_operation n home p)))
    operation_law home (operation h rs) n pre post outer scope rows e len is_n before look ends =
        let p = operation h rs in
        let here = within pre post n home p e len in
        let out = outward_below o (suc n) n (omega arith) here in
        let row = row_law outer scope n home p (λ name. look name ∙ sym (meaning_is o pre (laid_operation n home p ++ post) n name e len here out)) in
        let inner = regions_law n home h pre [] rs [] 0 (suc n) post (outer ++ scope ∷ []) (rows ++ resolved_row (tree o) (first_row n home p) ∷ []) e len refl (omega (arith, len)) tt before
        (length-append rows (resolved_row (tree o) (first_row n home p) ∷ []) ∙ omega (arith, is_n)) (λ name. look_in outer scope name ∙ look name) in
        let whole = append_assoc rows (resolved_row (tree o) (first_row n home p) ∷ []) (rows_for (laid_regions n 0 (suc n) rs)) in
        ap (λ k. after (head_row (names_in file outer scope) k home p) (λ row. after (regions_walk file (outer ++ scope ∷ []) k 0 rs (rows ++ row ∷ [])) (λ more. after (put_results k h scope) (λ sc. Ok (sc, more))))) is_n
        ∙ one_step _ _ _ _ _ _ row
        (one_step _ _ _ _ _ (scope ++ own_names n p, rows ++ rows_for (laid_operation n home p)) inner
        (last_step _ _ _ (λ sc. (sc, (rows ++ resolved_row (tree o) (first_row n home p) ∷ []) ++ rows_for (laid_regions n 0 (suc n) rs))) ends
        ∙ ap (λ more. unless (results_fault (twice_in (tree o) home) n h) (Ok (scope ++ own_names n p, more))) whole))

    regions_law : (n : ℕ) (home : Option Home) (h : Head) (pre : List Laid) (first : List (List SynArg)) (rs : Regions) (mid : List Laid) (g m : ℕ) (post : List Laid) (outer : List (List Definition)) (rows : List Row)
        → tree o ≡ pre ++ (record { id = n; home = home; head = h; arguments = first ++ arguments_of rs } ∷ (mid ++ (laid_regions n g m rs ++ post))) → length pre ≡ n → length first ≡ g → n + suc (length mid) ≡ m
        → AllAt (λ j x. Early n g x) (suc n) mid → ((x : Home) → home ≡ Some x → x.row < n) → length rows ≡ m
        → ((name : List ℕ) → lookup outer name ≡ firsts name (scene pre (around o n) n) (around o n))
        → regions_walk file outer n g rs rows ≡ unless (regions_fault (tree o) n g m rs) (Ok (rows ++ rows_for (laid_regions n g m rs)))
    regions_law n home h pre first no_regions mid g m post outer rows e len is_g is_m early before is_rows look = ap (λ xs. Ok xs) (sym (append-nil rows))
    regions_law n home h pre first (region_then args os rs) mid g m post outer rows e len is_g is_m early before is_rows look =
        let own = laid_operations (region n g) m os in
        let k = m + operations_count os in
        let more = laid_regions n (suc g) k rs in
        let l : Laid = record { id = n; home = home; head = h; arguments = first ++ args ∷ arguments_of rs } in
        let inside : n < m = omega (arith, is_m) in
        let e1 = e ∙ (ap (λ ls. pre ++ (l ∷ (mid ++ ls))) (append_assoc own more post) ∙ sym (append_assoc pre (l ∷ mid) (own ++ (more ++ post)))) in
        let here : n < length (tree o) = (let a = ap length e in let b = length-append pre (l ∷ (mid ++ ((own ++ more) ++ post))) in omega (arith, a, b, len)) in
        let out = outward_below o (suc n) n (omega arith) here in
        let all = front Placed 0 pre (l ∷ (mid ++ ((own ++ more) ++ post))) (subst (AllAt Placed 0) e (placed o)) in
        let names = region_twice pre mid (mid ++ ((own ++ more) ++ post)) n g home h first args (arguments_of rs) e len is_g in
        let scope = scene_region pre mid n g m (around o n) home h first args (arguments_of rs) len all is_g before early in
        let inner = operations_law (region n g) os m (pre ++ l ∷ mid) (more ++ post) outer rows e1 (length-append pre (l ∷ mid) ∙ omega (arith, len, is_m)) inside is_rows out
        (λ name. look name ∙ sym (firsts_same name n (scene (pre ++ l ∷ mid) (region n g ∷ around o n) m) (scene pre (around o n) n) (around o n) out (λ x q. scene_outside pre mid n g m (around o n) l len inside all refl early x q))) in
        let regrouped = ap (λ ls. mid ++ ls) (append_assoc own more post) ∙ sym (append_assoc mid own (more ++ post)) in
        let start : m ≡ suc n + length mid = omega (arith, is_m) in
        let early1 = all_behind (λ j x. Early n (suc g) x) (suc n) (length mid) mid own refl (early_more n g (suc n) mid early) (subst (λ j. AllAt (λ j' x. Early n (suc g) x) j own) start (early_region n g m os inside)) in
        let rest = regions_law n home h pre (first ++ args ∷ []) rs (mid ++ own) (suc g) k post outer (rows ++ rows_for own)
        (e ∙ (λ i. pre ++ (record { id = n; home = home; head = h; arguments = sym (append_assoc first (args ∷ []) (arguments_of rs)) i } ∷ regrouped i)))
        len (length-append first (args ∷ []) ∙ omega (arith, is_g)) (let a = length-append mid own in omega (arith, a, is_m, operations_length (region n g) m os)) early1 before
        (length-append rows (rows_for own) ∙ omega (arith, is_rows, length-map own (resolved_row (tree o)), operations_length (region n g) m os)) look in
        let all_rows = append_assoc rows (rows_for own) (rows_for more) ∙ ap (λ xs. rows ++ xs) (sym (map-append (resolved_row (tree o)) own more)) in
        let a = arguments_fault (twice_in (tree o) (Some (region n g))) n g 0 args in
        let b = operations_fault (tree o) (region n g) m os in
        let c = regions_fault (tree o) n (suc g) k rs in
        let region_done = one_step a b (put_arguments n g 0 args []) (argument_definitions n g 0 args) (λ sc. after (operations_walk file outer (region n g) os (sc, rows)) (λ t. Ok t.1)) (rows ++ rows_for own) names
        (last_step {A = State} b (operations_walk file outer (region n g) os (argument_definitions n g 0 args, rows)) _ (λ t. t.1) (ap (λ sc. operations_walk file outer (region n g) os (sc, rows)) (sym scope) ∙ inner)) in
        one_step (or_then a b) c _ _ (regions_walk file outer n (suc g) rs) _ region_done rest
        ∙ (λ i. unless (or_three a b c i) (Ok (all_rows i)))

    operations_law : (home : Home) (os : Operations) (n : ℕ) (pre post : List Laid) (outer : List (List Definition)) (rows : List Row)
        → tree o ≡ pre ++ (laid_operations home n os ++ post) → length pre ≡ n → home.row < n → length rows ≡ n → Outward home.row (around o home.row)
        → ((name : List ℕ) → lookup outer name ≡ firsts name (scene pre (home ∷ around o home.row) n) (around o home.row))
        → operations_walk file outer home os (scene pre (home ∷ around o home.row) n home, rows)
        ≡ unless (operations_fault (tree o) home n os) (Ok (scene (pre ++ laid_operations home n os) (home ∷ around o home.row) (n + operations_count os) home, rows ++ rows_for (laid_operations home n os)))
    operations_law home no_operations n pre post outer rows e len inside is_n out look =
        let zero_more : n ≡ n + 0 = omega arith in
        λ i. Ok (scene (sym (append-nil pre) i) (home ∷ around o home.row) (zero_more i) home, sym (append-nil rows) i)
    operations_law home (operation_then p os) n pre post outer rows e len inside is_n out look =
        let hs = around o home.row in
        let own = laid_operation n (Some home) p in
        let m = n + operation_count p in
        let more = laid_operations home m os in
        let e1 = e ∙ ap (λ ls. pre ++ ls) (append_assoc own more post) in
        let e2 = e1 ∙ sym (append_assoc pre own (more ++ post)) in
        let here = within pre (more ++ post) n (Some home) p e1 len in
        let same = around_some no_values o n home here (home_here pre (more ++ post) n (Some home) p e1 len) in
        let later : n < m = omega (arith, positive_count p) in
        let all = front Placed 0 pre (own ++ (more ++ post)) (subst (AllAt Placed 0) e1 (placed o)) in
        let one = operation_law (Some home) p n pre (more ++ post) outer (scene pre (home ∷ hs) n home) rows e1 len is_n (λ x is. some_below home x n is inside)
        (λ name. ap (option_or (find_name name (scene pre (home ∷ hs) n home))) (look name) ∙ ap (λ xs. firsts name (scene pre xs n) xs) (sym same))
        (results_here pre (more ++ post) n home hs p e1 len (inside, out)) in
        let rest = operations_law home os m (pre ++ own) post outer (rows ++ rows_for own) e2 (length-append pre own ∙ omega (arith, len, operation_length n (Some home) p)) (omega (arith, inside, later))
        (length-append rows (rows_for own) ∙ omega (arith, is_n, length-map own (resolved_row (tree o)), operation_length n (Some home) p)) out
        (λ name. look name ∙ sym (firsts_same name home.row (scene (pre ++ own) (home ∷ hs) m) (scene pre (home ∷ hs) n) hs out (λ x q. around_after pre n m home hs p len later all (inside, out) x q))) in
        let places : m + operations_count os ≡ n + (operation_count p + operations_count os) = omega arith in
        let all_rows = append_assoc rows (rows_for own) (rows_for more) ∙ ap (λ xs. rows ++ xs) (sym (map-append (resolved_row (tree o)) own more)) in
        one_step _ (operations_fault (tree o) home m os) _ _ _ _ one
        (ap (λ sc. operations_walk file outer home os (sc, rows ++ rows_for own)) (sym (own_after pre n m home hs p len later all (inside, out)))
        ∙ (rest ∙ (λ i. unless (operations_fault (tree o) home m os) (Ok (scene (append_assoc pre own more i) (home ∷ hs) (places i) home, all_rows i)))))
