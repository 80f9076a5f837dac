use Rattle.std.proofs.Common.{◌≡◌, ◌⊎◌, inl, inr, ℕ, ◌≤◌, cond, List, [], ◌∷◌, ◌++◌, map, take, length, slice_get, Some, sym, ap, ◌∙◌, arith}
use Rattle.std.specs.Str.{bytes_eq}
use Rattle.std.specs.HashMap.{get_by}
use Rattle.std.specs.Map.{lookup}
use Rattle.std.proofs.lemmas.Map.Text.{hash_map_updates_str}
use Rattle.pdll_syntax.specs.declared.file.CallDecl.{CallDecl}
use Rattle.pdll_expand.specs.declared.declared.Known.{Known}
use Rattle.pdll_expand.specs.Called.{last_named, call_of, IsTable}
use Rattle.pdll_expand.proofs.Calling.{get_within, get_appended, mapped_length, mapped_more, front_more, front_whole, last_one_more}
use Rattle.pdll_expand.proofs.declared.Declared.add.Goals as goal

older_still : (old : List Known) (calls : List CallDecl) (k x : Known) (i : ℕ) → length old ≡ length calls
    → k.older ≡ last_named (call_of k).name.text calls
    → ((j : ℕ) (y : Known) → Some y ≡ slice_get old j → y.older ≡ last_named (call_of y).name.text (take j calls))
    → Some x ≡ slice_get (old ++ k ∷ []) i → x.older ≡ last_named (call_of x).name.text (take i (calls ++ call_of k ∷ []))
older_still old calls k x i len newest older e = by (get_appended old k i x e) where
  by : (Some x ≡ slice_get old i) ⊎ ((i ≡ length old) × (Some x ≡ Some k)) → x.older ≡ last_named (call_of x).name.text (take i (calls ++ call_of k ∷ []))
  by (inl h) =
      let w = get_within old i x h in
      let le : i ≤ length calls = omega (arith, w, len) in
      older i x h ∙ ap (last_named (call_of x).name.text) (sym (front_more calls (call_of k) i le))
  by (inr h) =
      let same : x ≡ k = cc in
      let is : i ≡ length calls = h.0 ∙ len in
      let le : i ≤ length calls = omega (arith, is) in
      let front = front_more calls (call_of k) i le ∙ (ap (λ n. take n calls) is ∙ front_whole calls) in
      ap (λ (y : Known). y.older) same ∙ (newest ∙ (ap (λ (y : Known). last_named (call_of y).name.text calls) (sym same) ∙ ap (last_named (call_of x).name.text) (sym front)))

pub returns-clause-added : goal.returns-clause-added
returns-clause-added c = λ calls h.
    let old = c.args.self.now in
    let call = c.args.call.now in
    let name = c.as_slice-2.result.now in
    let k : Known = record { call = c.args.call; older = c.newest-older.result } in
    let long : length old.calls ≡ length calls = sym (mapped_length call_of old.calls) ∙ ap length h.calls_are in
    let count = c.len-at.ensures ∙ long in
    let mid = c.reserve.new.self in
    let kept = λ (n : List ℕ). ap (lookup (λ k. bytes_eq n k.now)) c.in_ok-reserve.ensures.entries ∙ h.newest_are n in
    let room : IsTable (record { calls = old.calls; newest = mid }) calls = record { calls_are = h.calls_are; newest_are = kept; older_are = h.older_are } in
    let found = c.newest-older.ensures calls room ∙ ap (λ n. last_named n calls) c.as_slice.ensures in
    record {
      calls_are = ap (map call_of) c.in_ok-push.ensures.ok ∙ (mapped_more call_of old.calls k ∙ ap (λ cs. cs ++ call ∷ []) h.calls_are);
      newest_are = λ n.
          hash_map_updates_str name mid c.insert.new.self (Some c.len-at.result) c.in_ok-insert.ensures.updates n
          ∙ (ap (λ m. cond (bytes_eq name n) (Some m) (get_by (λ k. bytes_eq n k.now) mid)) count
          ∙ (ap (cond (bytes_eq name n) (Some (length calls))) (kept n)
          ∙ (ap (λ m. cond (bytes_eq m n) (Some (length calls)) (last_named n calls)) c.as_slice-2.ensures ∙ sym (last_one_more n calls call))));
      older_are = λ i x e. older_still old.calls calls k x i long found h.older_are (e ∙ ap (λ xs. slice_get xs i) c.in_ok-push.ensures.ok);
    }
