-- A text that is put piece by piece.
use Rattle.std.proofs.Common.{◌≡◌, ℕ, ◌+◌, ◌≤◌, List, [], ◌∷◌, ◌++◌, length, take, drop, Option, Some, None, Result, Ok, Err, refl, sym, ap, subst, ◌∙◌, append_assoc, append-nil, arith, inl, inr}
use Rattle.std.proofs.Math.Seq.{take-append-add}
use Rattle.std.proofs.lemmas.List.{take-append-le, take_at, take_all}
use Rattle.std.proofs.lemmas.Bool.{cases_lt}
use Rattle.rw_outside.specs.Outside.{Rose, appended, Grows, PutsFront}
use Rattle.rw_outside.specs.Puts.{SinkState, Puts}
use Rattle.rw_outside.proofs.Put.{appended-appended, appended-nil, grows_not, grows_twice}

abbrev pub ok_of : {A E : Type 0} → A → Result A E
ok_of x = Ok x

abbrev pub err_of : {A E : Type 0} → E → Result A E
err_of e = Err e

-- a front of the text was put, and the rest is still to be put
pub record PutSoFar (before now : SinkState) (text rest : List ℕ) : Type 0 where
  pub front : List ℕ
  pub parts : text ≡ front ++ rest
  pub put : now.bytes ≡ appended before.bytes front
  pub never_falls : before.faults ≤ now.faults
  pub arrives : Grows before.arrived now.arrived
  pub same_way : now.way ≡ before.way

pub put_starts : (before : SinkState) (text : List ℕ) → PutSoFar before before text text
put_starts before text = record {
  front = [];
  parts = refl;
  put = sym (appended-nil before.bytes);
  never_falls = omega arith;
  arrives = grows_not before.arrived;
  same_way = refl;
}

pub put_goes_on : {A E : Type 0} (x : A) (before now after : SinkState) (text piece rest : List ℕ) → PutSoFar before now text (piece ++ rest) → Puts now after (ok_of {E = E} x) piece → PutSoFar before after text rest
put_goes_on x before now after text piece rest p puts = record {
  front = p.front ++ piece;
  parts = p.parts ∙ sym (append_assoc p.front piece rest);
  put = puts.all ∙ ap (λ (k : Option (List ℕ)). appended k piece) p.put ∙ appended-appended before.bytes p.front piece;
  never_falls = omega (arith, p.never_falls, puts.never_falls);
  arrives = grows_twice before.arrived now.arrived after.arrived p.arrives puts.arrives;
  same_way = puts.same_way ∙ p.same_way;
}

-- where a text is shorter than what is taken of it, all of it is taken
front_within : (count : ℕ) (piece rest : List ℕ) → (n : ℕ) × (take count piece ≡ take n (piece ++ rest))
front_within count piece rest = elim (cases_lt count (length piece)) [
  | inl lt ↦ (count, sym (take-append-le count piece rest (omega arith)))
  | inr le ↦ (length piece, take_all count piece le ∙ sym (take_at piece rest (length piece) refl))
]

front_of : (before now after : Option (List ℕ)) (front text piece rest : List ℕ) → now ≡ appended before front → text ≡ front ++ (piece ++ rest) → PutsFront now after piece → PutsFront before after text
front_of before now after front text piece rest put parts fails =
    let w = front_within fails.count piece rest in
    record {
      count = length front + w.0;
      put = fails.put
          ∙ ap (λ (k : Option (List ℕ)). appended k (take fails.count piece)) put
          ∙ appended-appended before front (take fails.count piece)
          ∙ ap (λ (t : List ℕ). appended before (front ++ t)) w.1
          ∙ ap (appended before) (sym (take-append-add front (piece ++ rest) w.0))
          ∙ ap (λ (t : List ℕ). appended before (take (length front + w.0) t)) (sym parts);
    }

-- a call in the middle of a text failed
pub puts_fails : {A E B F : Type 0} (r : Result A E) (e : E) (f : F) (before now after : SinkState) (text piece rest : List ℕ) → r ≡ Err e
    → PutSoFar before now text (piece ++ rest) → Puts now after (err_of {A = B} f) piece → Puts before after r text
puts_fails (Ok x) e f before now after text piece rest is p puts = absurd cc
puts_fails (Err d) e f before now after text piece rest is p puts = record {
  all = tt;
  front = front_of before.bytes now.bytes after.bytes p.front text piece rest p.put p.parts puts.front;
  failed = omega (arith, puts.failed, p.never_falls, puts.never_falls);
  never_falls = omega (arith, p.never_falls, puts.never_falls);
  arrives = grows_twice before.arrived now.arrived after.arrived p.arrives puts.arrives;
  same_way = puts.same_way ∙ p.same_way;
}

-- nothing is left to be put
pub put_ends : {A E : Type 0} (x : A) (before now : SinkState) (text : List ℕ) → PutSoFar before now text [] → Puts before now (ok_of {E = E} x) text
put_ends x before now text p = record {
  all = p.put ∙ ap (appended before.bytes) (sym (p.parts ∙ append-nil p.front));
  front = tt;
  failed = tt;
  never_falls = p.never_falls;
  arrives = p.arrives;
  same_way = p.same_way;
}

-- the last call of a text
pub puts_last : {A E : Type 0} (r : Result A E) (before now after : SinkState) (text piece : List ℕ) → PutSoFar before now text piece → Puts now after r piece → Puts before after r text
puts_last (Ok x) before now after text piece p puts =
    put_ends x before after text (put_goes_on x before now after text piece [] (subst (PutSoFar before now text) (sym (append-nil piece)) p) puts)
puts_last (Err e) before now after text piece p puts = puts_fails (Err e) e e before now after text piece [] refl (subst (PutSoFar before now text) (sym (append-nil piece)) p) puts

-- ---- a text that is put into a sink that gathers, and then flushed

grown_is : (before held after more : List ℕ) (text : List ℕ) → after ≡ before ++ more → after ++ held ≡ before ++ text → take (length more) text ≡ more
grown_is [] held after more text is same =
    ap (take (length more)) (sym same ∙ ap (λ (l : List ℕ). l ++ held) is) ∙ take_at more held (length more) refl
grown_is (b ∷ before) held [] more text is same = absurd cc
grown_is (b ∷ before) held (a ∷ after) more text is same =
    grown_is before held after more text (ap tail_of is) (ap tail_of same)
  where
    tail_of : List ℕ → List ℕ
    tail_of [] = []
    tail_of (x ∷ xs) = xs

-- where some of a text is held back, what arrived is a front of it
pub arrived_front : (before after : Option (List ℕ)) (held text : List ℕ) → Grows before after → appended after held ≡ appended before text → PutsFront before after text
arrived_front None after held text grows same = record { count = 0; put = grows.grown }
arrived_front (Some bytes) None held text grows same = absurd (cc (grows.grown))
arrived_front (Some bytes) (Some now) held text grows same =
    record { count = length grows.more; put = grows.grown ∙ ap (λ (t : List ℕ). Some (bytes ++ t)) (sym (grown_is bytes held now grows.more text (some_is grows.grown) (some_is same))) }
  where
    some_is : {x y : List ℕ} → Some x ≡ Some y → x ≡ y
    some_is e = cc
