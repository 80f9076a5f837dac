-- A text that was gathered, and handed on.
use Rattle.std.proofs.Common.{◌≡◌, ℕ, ◌≤◌, List, [], take, drop, Option, Result, Ok, Err, sym, ap, ◌∙◌, arith, length-take}
use Rattle.std.specs.Prelude.{OnOk, OnErr}
use Rattle.std.specs.Borrow.{MutBor}
use Rattle.std.proofs.lemmas.List.{take-take, take_all}
use Rattle.std.proofs.lemmas.Bool.{cases_lt}
use Rattle.std.proofs.Common.{inl, inr}
use Rattle.rw_outside.specs.Outside.{Rose, appended, Grows, PutsFront}
use Rattle.rw_outside.specs.Puts.{SinkState, gathered_state, Puts}
use Rattle.rw_outside.proofs.Put.{appended-nil, grows_twice}
use Rattle.rw_outside.proofs.Putting.{arrived_front, ok_of, err_of}
use Rattle.pdllrw_command.specs.Written.{Writes}

front_of_front : (before after : Option (List ℕ)) (n : ℕ) (text : List ℕ) → PutsFront before after (take n text) → PutsFront before after text
front_of_front before after n text fails = elim (cases_lt fails.count n) [
  | inl lt ↦ record { count = fails.count; put = fails.put ∙ ap (appended before) (take-take fails.count n text (omega arith)) }
  | inr le ↦ record { count = n; put = fails.put ∙ ap (appended before) (take_all fails.count (take n text) (omega (arith, length-take n text))) }
]

module _ {X : Type 0} (state : X → SinkState) (s0 s1 : MutBor X) (h0 h1 : List ℕ) (d0 d1 : ℕ) (text : List ℕ) (empty : drop d0 h0 ≡ []) where
  nothing_held : appended (state s0.now).bytes (drop d0 h0) ≡ (state s0.now).bytes
  nothing_held = ap (appended (state s0.now).bytes) empty ∙ appended-nil (state s0.now).bytes

  pub gathering_fails : {A E B F : Type 0} (r : Result A E) (e : E) (f : F) → r ≡ Err e
      → Puts (gathered_state state s0 h0 d0) (gathered_state state s1 h1 d1) (err_of {A = B} f) text → Writes (state s0.now) (state s1.now) r text
  gathering_fails (Ok x) e f is puts = absurd cc
  gathering_fails (Err d) e f is puts =
      let fails = puts.front in
      let same : appended (state s1.now).bytes (drop d1 h1) ≡ appended (state s0.now).bytes (take fails.count text) =
      fails.put ∙ ap (λ (k : Option (List ℕ)). appended k (take fails.count text)) nothing_held in
      record {
        all = tt;
        front = front_of_front (state s0.now).bytes (state s1.now).bytes fails.count text (arrived_front (state s0.now).bytes (state s1.now).bytes (drop d1 h1) (take fails.count text) puts.arrives same);
        failed = puts.failed;
      }

  pub flushes : {A E B F : Type 0} (x : B) (r : Result A E) (s2 : MutBor X) (h2 : List ℕ) (d2 : ℕ) → Puts (gathered_state state s0 h0 d0) (gathered_state state s1 h1 d1) (ok_of {E = F} x) text
      → (gathered_state state s2 h2 d2).bytes ≡ (gathered_state state s1 h1 d1).bytes → OnOk r (drop d2 h2 ≡ []) → OnErr r (Rose (state s1.now).faults (state s2.now).faults)
      → (state s1.now).faults ≤ (state s2.now).faults → Grows (state s1.now).bytes (state s2.now).bytes → Writes (state s0.now) (state s2.now) r text
  flushes x (Ok y) s2 h2 d2 puts bytes done failed le grows = record {
    all = sym (ap (appended (state s2.now).bytes) done ∙ appended-nil (state s2.now).bytes) ∙ bytes ∙ puts.all ∙ ap (λ (k : Option (List ℕ)). appended k text) nothing_held;
    front = tt;
    failed = tt;
  }
  flushes x (Err e) s2 h2 d2 puts bytes done failed le grows =
      let same : appended (state s2.now).bytes (drop d2 h2) ≡ appended (state s0.now).bytes text = bytes ∙ puts.all ∙ ap (λ (k : Option (List ℕ)). appended k text) nothing_held in
      record {
        all = tt;
        front = arrived_front (state s0.now).bytes (state s2.now).bytes (drop d2 h2) text (grows_twice (state s0.now).bytes (state s1.now).bytes (state s2.now).bytes puts.arrives grows) same;
        failed = omega (arith, failed, puts.never_falls);
      }
