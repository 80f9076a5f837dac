-- A log's text tells one run.
use Rattle.std.proofs.Common.{◌≡◌, ℕ, ◌+◌, ◌^◌, ◌<◌, ◌≤◌, List, [], ◌∷◌, ◌++◌, codes, decimal, length, take, refl, sym, ap, ◌∙◌, arith, append-nil, length-append, subst}
use Rattle.std.specs.Prelude.{slice_index, ◌==◌}
use Rattle.std.specs.List.{prefix_len}
use Rattle.std.specs.Str.Parse.{digits_value}
use Rattle.text_scan.specs.Bytes.{is_digit}
use Rattle.mlir_print.specs.Text.{byte_text, string_text}
use Rattle.rewrite_model.specs.declared.run.Hit.{Hit}
use Rattle.rewrite_model.specs.declared.run.Broken.{Broken as BrokenData}
use Rattle.rewrite_model.specs.declared.run.Break.{Break}
use Rattle.rewrite_model.specs.declared.run.Break.TheVariants.{Gone, Count, Types, Top, NativeRefused, BadUse}
use Rattle.rewrite_model.specs.declared.run.BoundKind.{BoundKind}
use Rattle.rewrite_model.specs.declared.run.Ending.{Ending}
use Rattle.rewrite_model.specs.declared.run.Ending.TheVariants.{Converged, Bound, Broken}
use Rattle.rewrite_model.specs.Taken.{Taken}
use Rattle.run_model.specs.LogText.{numbers_text, step_line, step_lines, place_text, break_text, bound_text, ending_line, header, log_text}
use Rattle.run_log.specs.Choosing.{break_of, bound_of}
use Rattle.run_log.specs.Cursor.{EndsNumber, EndsNumbers, byte_of}
use Rattle.run_log.specs.Written.{AreBytes, AreWords, IsStep, IsBreak, IsEnding}
use Rattle.run_log.specs.ReadLog.{AreSteps}
use Rattle.run_log.specs.Laws.{LogsTellOneRun}
use Rattle.run_log.proofs.Lines.{more_numbers, step_behind, step_same}
use Rattle.run_log.proofs.Pieces.{joins, true_false, number_front, number_first, byte_front}
use Rattle.run_log.proofs.Strings.{inside_text, byte_first}
use Rattle.run_log.proofs.Numbers.{ends_more}
use Rattle.run_log.proofs.Endings.{bare, break_front, bare_use, bare_same, bound_front, place_behind, use_behind, bound_behind, broken_behind, is_converged, is_bound, is_broken, broken_same}
use Rattle.run_log.proofs.LineFeeds.{tail_of, step_is_line, one_line}
use Rattle.run_log.proofs.Walks.{step_first, ending_first, not_both, few_steps, header_is_line}

-- ---- the pieces

behind : (a r q : List ℕ) → a ++ r ≡ a ++ q → r ≡ q
behind [] r q e = e
behind (b ∷ a) r q e = behind a r q (ap tail_of e)

abbrev number_at : List ℕ → ℕ
number_at t = digits_value 10 (take (prefix_len is_digit t) t)

one_number : (n m : ℕ) (r q : List ℕ) → n < 2 ^ 64 → m < 2 ^ 64 → EndsNumber r → EndsNumber q → decimal n ++ r ≡ decimal m ++ q → (n ≡ m) × (r ≡ q)
one_number n m r q small little ends stops e =
    let same : n ≡ m = sym (number_front n r small ends).value ∙ ap number_at e ∙ (number_front m q little stops).value in
    (same, behind (decimal m) r q (ap (λ x. decimal x ++ r) (sym same) ∙ e))

one_inside : (cs bs r q : List ℕ) → AreBytes cs → AreBytes bs → inside_text cs ++ (34 ∷ r) ≡ inside_text bs ++ (34 ∷ q) → (cs ≡ bs) × (r ≡ q)
one_inside [] [] r q all are e = (refl, ap tail_of e)
one_inside [] (b ∷ bs) r q all are e =
    absurd ((byte_first b).1 (inside_text bs ++ (34 ∷ q)) (ap (λ t. slice_index t 0) (sym (joins (byte_text b) (inside_text bs) (34 ∷ q)) ∙ sym e)))
one_inside (a ∷ cs) [] r q all are e =
    absurd ((byte_first a).1 (inside_text cs ++ (34 ∷ r)) (ap (λ t. slice_index t 0) (sym (joins (byte_text a) (inside_text cs) (34 ∷ r)) ∙ e)))
one_inside (a ∷ cs) (b ∷ bs) r q all are e =
    let f = sym (joins (byte_text a) (inside_text cs) (34 ∷ r)) ∙ e ∙ joins (byte_text b) (inside_text bs) (34 ∷ q) in
    let same : a ≡ b = sym (byte_front a (inside_text cs ++ (34 ∷ r)) all.0) ∙ ap byte_of f ∙ byte_front b (inside_text bs ++ (34 ∷ q)) are.0 in
    let (more, rest) = one_inside cs bs r q all.1 are.1 (behind (byte_text b) (inside_text cs ++ (34 ∷ r)) (inside_text bs ++ (34 ∷ q)) (ap (λ x. byte_text x ++ (inside_text cs ++ (34 ∷ r))) (sym same) ∙ f)) in
    ((λ i. same i ∷ more i), rest)

one_string : (cs bs r q : List ℕ) → AreBytes cs → AreBytes bs → string_text cs ++ r ≡ string_text bs ++ q → (cs ≡ bs) × (r ≡ q)
unfolding string_text
one_string cs bs r q all are e = one_inside cs bs r q all are (sym (joins (inside_text cs) (codes "\"") r) ∙ ap tail_of e ∙ joins (inside_text bs) (codes "\"") q)

one_more : (ns ms r q : List ℕ) → AreWords ns → AreWords ms → EndsNumbers r → EndsNumbers q → more_numbers ns ++ r ≡ more_numbers ms ++ q → (ns ≡ ms) × (r ≡ q)
one_more [] [] r q all are ends stops e = (refl, e)
one_more [] (m ∷ ms) r q all are ends stops e = absurd (true_false (ap (λ t. slice_index t 0 == 44) (sym e) ∙ ends.1))
one_more (n ∷ ns) [] r q all are ends stops e = absurd (true_false (ap (λ t. slice_index t 0 == 44) e ∙ stops.1))
one_more (n ∷ ns) (m ∷ ms) r q all are ends stops e =
    let (same, f) = one_number n m (more_numbers ns ++ r) (more_numbers ms ++ q) (omega (arith, all.0)) (omega (arith, are.0)) (ends_more ns r ends) (ends_more ms q stops)
    (sym (joins (decimal n) (more_numbers ns) r) ∙ ap tail_of e ∙ joins (decimal m) (more_numbers ms) q) in
    let (more, rest) = one_more ns ms r q all.1 are.1 ends stops f in
    ((λ i. same i ∷ more i), rest)

no_dash : (n : ℕ) (ns r q : List ℕ) → n < 2 ^ 32 → codes "-" ++ q ≡ numbers_text (n ∷ ns) ++ r → ⊥
no_dash n ns r q small e =
    true_false (sym (number_first n (more_numbers ns ++ r) (omega (arith, small))) ∙ ap (λ t. is_digit (slice_index t 0)) (sym (joins (decimal n) (more_numbers ns) r) ∙ sym e))

one_numbers : (ns ms r q : List ℕ) → AreWords ns → AreWords ms → EndsNumbers r → EndsNumbers q → numbers_text ns ++ r ≡ numbers_text ms ++ q → (ns ≡ ms) × (r ≡ q)
one_numbers [] [] r q all are ends stops e = (refl, ap tail_of e)
one_numbers [] (m ∷ ms) r q all are ends stops e = absurd (no_dash m ms q r are.0 e)
one_numbers (n ∷ ns) [] r q all are ends stops e = absurd (no_dash n ns r q all.0 (sym e))
one_numbers (n ∷ ns) (m ∷ ms) r q all are ends stops e =
    let (same, f) = one_number n m (more_numbers ns ++ r) (more_numbers ms ++ q) (omega (arith, all.0)) (omega (arith, are.0)) (ends_more ns r ends) (ends_more ms q stops)
    (sym (joins (decimal n) (more_numbers ns) r) ∙ e ∙ joins (decimal m) (more_numbers ms) q) in
    let (more, rest) = one_more ns ms r q all.1 are.1 ends stops f in
    ((λ i. same i ∷ more i), rest)

-- ---- the lines

one_step : (k : ℕ) (s t : Taken) → IsStep s → IsStep t → step_line k s ≡ step_line k t → s ≡ t
one_step k s t is are e =
    let at_count = behind (codes "step ") _ _ (sym (step_behind k s []) ∙ ap (λ x. x ++ []) e ∙ step_behind k t []) in
    let at_pattern = behind (codes " pattern ") _ _ (behind (decimal k) _ _ at_count) in
    let (pattern, from_pattern) = one_number s.pattern t.pattern _ _ (omega (arith, is.pattern)) (omega (arith, are.pattern)) refl refl at_pattern in
    let (name, from_name) = one_string s.name t.name _ _ is.name are.name (behind (codes " ") _ _ from_pattern) in
    let (root, from_root) = one_number s.root t.root _ _ (omega (arith, is.root)) (omega (arith, are.root)) refl refl (behind (codes " root ") _ _ from_name) in
    let (made, from_made) = one_numbers s.made t.made _ _ is.made are.made (refl, refl) (refl, refl) (behind (codes " made ") _ _ from_root) in
    let (removed, end) = one_numbers s.removed t.removed _ _ is.removed are.removed (refl, refl) (refl, refl) (behind (codes " removed ") _ _ from_made) in
    step_same t s.pattern s.root s.name s.made s.removed pattern name root made removed

one_place : (g h : Hit) (r q : List ℕ) → g.pattern < 2 ^ 32 → g.row < 2 ^ 32 → h.pattern < 2 ^ 32 → h.row < 2 ^ 32 → EndsNumber r → EndsNumber q
    → place_text g.pattern g.row ++ r ≡ place_text h.pattern h.row ++ q → (g ≡ h) × (r ≡ q)
one_place g h r q a b c d ends stops e =
    let at_pattern = behind (codes " pattern ") _ _ (sym (place_behind g.pattern g.row r) ∙ e ∙ place_behind h.pattern h.row q) in
    let (pattern, from_pattern) = one_number g.pattern h.pattern _ _ (omega (arith, a)) (omega (arith, c)) refl refl at_pattern in
    let (row, rest) = one_number g.row h.row r q (omega (arith, b)) (omega (arith, d)) ends stops (behind (codes " root ") _ _ from_pattern) in
    (rw (pattern, row) refl, rest)

same_break : (w v : Break) (r q : List ℕ) → break_text w ++ r ≡ break_text v ++ q → bare v ≡ bare w
same_break w v r q e = sym (break_front v q) ∙ ap break_of (sym e) ∙ break_front w r

one_use : (row place : ℕ) (v : Break) (r q : List ℕ) → (row < 2 ^ 32) × (place < 2 ^ 16) → IsBreak v → EndsNumber r → EndsNumber q → break_text (BadUse row place) ++ r ≡ break_text v ++ q → BadUse row place ≡ v
one_use row place v r q is are ends stops e =
    let (x, y, same) = bare_use v 0 0 (same_break (BadUse row place) v r q e) in
    let small = subst IsBreak same are in
    let at_row = behind (codes "bad-use row ") _ _ (sym (use_behind row place r) ∙ e ∙ ap (λ u. break_text u ++ q) same ∙ use_behind x y q) in
    let (same_row, from_row) = one_number row x _ _ (omega (arith, is.0)) (omega (arith, small.0)) refl refl at_row in
    let (same_place, rest) = one_number place y r q (omega (arith, is.1)) (omega (arith, small.1)) ends stops (behind (codes " place ") _ _ from_row) in
    (λ i. BadUse (same_row i) (same_place i)) ∙ sym same

one_break : (w v : Break) (r q : List ℕ) → IsBreak w → IsBreak v → EndsNumber r → EndsNumber q → break_text w ++ r ≡ break_text v ++ q → w ≡ v
one_break Gone v r q is are ends stops e = sym (bare_same v Gone (same_break Gone v r q e) tt)
one_break Count v r q is are ends stops e = sym (bare_same v Count (same_break Count v r q e) tt)
one_break Types v r q is are ends stops e = sym (bare_same v Types (same_break Types v r q e) tt)
one_break Top v r q is are ends stops e = sym (bare_same v Top (same_break Top v r q e) tt)
one_break NativeRefused v r q is are ends stops e = sym (bare_same v NativeRefused (same_break NativeRefused v r q e) tt)
one_break (BadUse row place) v r q is are ends stops e = one_use row place v r q is are ends stops e

one_bound : (n : ℕ) (k l : BoundKind) (g h : Hit) → IsEnding (Bound k g) → IsEnding (Bound l h) → ending_line n (Bound k g) ++ [] ≡ ending_line n (Bound l h) ++ [] → Bound k g ≡ Bound l h
one_bound n k l g h is are e =
    let at_kind = behind (codes "end bound ") _ _ (sym (bound_behind n k g []) ∙ e ∙ bound_behind n l h []) in
    let same : k ≡ l = sym (bound_front k _) ∙ ap bound_of at_kind ∙ bound_front l _ in
    let from_kind = behind (bound_text l) _ _ (ap (λ x. bound_text x ++ (codes " steps " ++ (decimal n ++ (place_text g.pattern g.row ++ codes "\n")))) (sym same) ∙ at_kind) in
    let (hit, rest) = one_place g h _ _ is.0 is.1 are.0 are.1 refl refl (behind (decimal n) _ _ (behind (codes " steps ") _ _ from_kind)) in
    rw (same, hit) refl

one_broken : (n : ℕ) (a b : BrokenData) → IsEnding (Broken a) → IsEnding (Broken b) → ending_line n (Broken a) ++ [] ≡ ending_line n (Broken b) ++ [] → Broken a ≡ Broken b
one_broken n a b is are e =
    let at_count = behind (codes "end broken steps ") _ _ (sym (broken_behind n a []) ∙ e ∙ broken_behind n b []) in
    let (hit, from_place) = one_place (record { pattern = a.pattern; row = a.root }) (record { pattern = b.pattern; row = b.root }) _ _ is.0 is.1 are.0 are.1 refl refl (behind (decimal n) _ _ at_count) in
    let why = one_break a.why b.why (codes "\n") (codes "\n") is.2 are.2 refl refl (behind (codes " ") _ _ from_place) in
    broken_same b (record { pattern = a.pattern; row = a.root }) a.why hit why

at_byte : (n i : ℕ) (e f : Ending) → ending_line n e ++ [] ≡ ending_line n f ++ [] → slice_index (ending_line n f ++ []) i ≡ slice_index (ending_line n e ++ []) i
at_byte n i e f h = ap (λ t. slice_index t i) (sym h)

bound_bytes : (n : ℕ) (k : BoundKind) (g : Hit) → (slice_index (ending_line n (Bound k g) ++ []) 4 ≡ 98) × (slice_index (ending_line n (Bound k g) ++ []) 5 ≡ 111)
unfolding ending_line
bound_bytes n k g = (refl, refl)

broken_bytes : (n : ℕ) (b : BrokenData) → (slice_index (ending_line n (Broken b) ++ []) 4 ≡ 98) × (slice_index (ending_line n (Broken b) ++ []) 5 ≡ 114)
unfolding ending_line
broken_bytes n b = (refl, refl)

converged_byte : (n : ℕ) → slice_index (ending_line n Converged ++ []) 4 ≡ 99
unfolding ending_line
converged_byte n = refl

differs : (a b c : ℕ) → a ≡ b → b ≡ c → a ≡ 99 → c ≡ 98 → ⊥
differs a b c x y p q = absurd (omega (arith, x, y, p, q))

differs_5 : (a b c : ℕ) → a ≡ b → b ≡ c → a ≡ 111 → c ≡ 114 → ⊥
differs_5 a b c x y p q = absurd (omega (arith, x, y, p, q))

one_ending_by : (n : ℕ) (e f : Ending) → IsEnding e → IsEnding f → ending_line n e ++ [] ≡ ending_line n f ++ [] → e ≡ f
one_ending_by n Converged f is are h = sym (is_converged n f [] (at_byte n 4 Converged f h ∙ converged_byte n))
one_ending_by n (Bound k g) f is are h =
    let bytes = bound_bytes n k g in
    let (l, hit, same) = is_bound n f [] (λ c. differs _ _ _ (sym c) (at_byte n 4 (Bound k g) f h ∙ bytes.0) refl refl) (at_byte n 5 (Bound k g) f h ∙ bytes.1) in
    one_bound n k l g hit is (subst IsEnding same are) (h ∙ ap (λ x. ending_line n x ++ []) same) ∙ sym same
one_ending_by n (Broken b) f is are h =
    let bytes = broken_bytes n b in
    let (d, same) = is_broken n f [] (λ c. differs _ _ _ (sym c) (at_byte n 4 (Broken b) f h ∙ bytes.0) refl refl) (λ c. differs_5 _ _ _ (sym c) (at_byte n 5 (Broken b) f h ∙ bytes.1) refl refl) in
    one_broken n b d is (subst IsEnding same are) (h ∙ ap (λ x. ending_line n x ++ []) same) ∙ sym same

-- ---- the whole log

one_log : (k n m : ℕ) (ss ts : List Taken) (e f : Ending) → AreSteps ss → AreSteps ts → IsEnding e → IsEnding f → k + length ss < 2 ^ 64 → k + length ts < 2 ^ 64 → n + 1 ≡ k + length ss → m + 1 ≡ k + length ts
    → step_lines k ss ++ ending_line n e ≡ step_lines k ts ++ ending_line m f → (ss ≡ ts) × (e ≡ f)
unfolding step_lines
one_log k n m [] [] e f all are is will small little count number h =
    let same : n ≡ m = omega (arith, count, number) in
    (refl, one_ending_by m e f is will (ap (λ t. t ++ []) (ap (λ c. ending_line c e) (sym same) ∙ h)))
one_log k n m [] (t ∷ ts) e f all are is will small little count number h =
    absurd (not_both _ _ (step_first k t (step_lines (k + 1) ts ++ ending_line m f)) (ending_first n e [])
    (ap (λ x. slice_index x 0) (sym (joins (step_line k t) (step_lines (k + 1) ts) (ending_line m f)) ∙ sym h ∙ sym (append-nil (ending_line n e)))))
one_log k n m (s ∷ ss) [] e f all are is will small little count number h =
    absurd (not_both _ _ (step_first k s (step_lines (k + 1) ss ++ ending_line n e)) (ending_first m f [])
    (ap (λ x. slice_index x 0) (sym (joins (step_line k s) (step_lines (k + 1) ss) (ending_line n e)) ∙ h ∙ sym (append-nil (ending_line m f)))))
one_log k n m (s ∷ ss) (t ∷ ts) e f all are is will small little count number h =
    let (same, rest) = one_line (step_line k s) (step_line k t) (step_lines (k + 1) ss ++ ending_line n e) (step_lines (k + 1) ts ++ ending_line m f)
    (step_is_line k s (omega (arith, small)) all.0) (step_is_line k t (omega (arith, small)) are.0)
    (sym (joins (step_line k s) (step_lines (k + 1) ss) (ending_line n e)) ∙ h ∙ joins (step_line k t) (step_lines (k + 1) ts) (ending_line m f)) in
    let (more, end) = one_log (k + 1) n m ss ts e f all.1 are.1 is will (omega (arith, small)) (omega (arith, little)) (omega (arith, count)) (omega (arith, number)) rest in
    ((λ i. one_step k s t all.0 are.0 same i ∷ more i), end)

few_lines : (ss : List Taken) (e : Ending) (text : List ℕ) → text ≡ log_text ss e → length text ≤ 67108864 → length ss ≤ 67108864
unfolding log_text
few_lines ss e text is small =
    omega (arith, small, ap length is, few_steps 1 ss, length-append header (step_lines 1 ss ++ ending_line (length ss) e), length-append (step_lines 1 ss) (ending_line (length ss) e))

pub one_run : LogsTellOneRun
unfolding log_text
one_run text ss ts e f small log other =
    let few = few_lines ss e text log.text_is small in
    let little = few_lines ts f text other.text_is small in
    let (same, rest) = one_line header header (step_lines 1 ss ++ ending_line (length ss) e) (step_lines 1 ts ++ ending_line (length ts) f) header_is_line header_is_line (sym log.text_is ∙ other.text_is) in
    one_log 1 (length ss) (length ts) ss ts e f log.steps_are other.steps_are log.ending_is other.ending_is (omega (arith, few)) (omega (arith, little)) (omega arith) (omega arith) rest
