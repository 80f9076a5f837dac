-- One piece put behind another.
use Rattle.std.proofs.Common.{◌≡◌, ℕ, ◌+◌, ◌-◌, ◌<◌, ◌≤◌, List, [], ◌++◌, length, take, drop, Option, Some, None, Result, Ok, Err, refl, ap, ◌∙◌, sym, append_assoc, arith, length-drop, take-append-drop, drop-drop, append-nil}
use Rattle.std.proofs.Math.Seq.{take-add}
use Rattle.std.proofs.lemmas.List.{take_all}
use Rattle.std.specs.Prelude.{IfOk, OnErr}
use Rattle.rw_outside.specs.Outside.{Rose, appended, Grows}
use Rattle.rw_outside.specs.Puts.{SinkState, Puts}

pub appended-appended : (known : Option (List ℕ)) (a b : List ℕ) → appended (appended known a) b ≡ appended known (a ++ b)
appended-appended None a b = refl
appended-appended (Some bytes) a b = ap Some (append_assoc bytes a b)

pub put_more : (before now after : Option (List ℕ)) (i n : ℕ) (piece : List ℕ) → now ≡ appended before (take i piece) → after ≡ appended now (take n (take (length piece - i) (drop i piece))) → after ≡ appended before (take (i + n) piece)
put_more before now after i n piece so_far put =
    put
    ∙ ap (λ (k : Option (List ℕ)). appended k (take n (take (length piece - i) (drop i piece)))) so_far
    ∙ appended-appended before (take i piece) (take n (take (length piece - i) (drop i piece)))
    ∙ ap (λ (t : List ℕ). appended before (take i piece ++ take n t)) (take_all (length piece - i) (drop i piece) (omega (arith, length-drop i piece)))
    ∙ ap (appended before) (sym (take-add i n piece))

pub inside_more : (i n : ℕ) (piece : List ℕ) → i ≤ length piece → n ≤ length (take (length piece - i) (drop i piece)) → i + n ≤ length piece
inside_more i n piece inside within =
    let whole : take (length piece - i) (drop i piece) ≡ drop i piece = take_all (length piece - i) (drop i piece) (omega (arith, length-drop i piece)) in
    omega (arith, ap length whole, length-drop i piece)

-- what is left is what was given, and what is left behind it
pub given_first : (rest bytes from to : List ℕ) (at n : ℕ) → drop at bytes ≡ rest → from ≡ bytes → take n to ≡ take n (take (length from - at) (drop at from)) → rest ≡ take n to ++ drop (at + n) bytes
given_first rest bytes from to at n is_rest is_bytes copied =
    let whole : take (length from - at) (drop at from) ≡ drop at from = take_all (length from - at) (drop at from) (omega (arith, length-drop at from)) in
    let front : take n to ≡ take n rest = copied ∙ ap (take n) (whole ∙ ap (drop at) is_bytes ∙ is_rest) in
    sym (take-append-drop n rest) ∙ ap (λ (t : List ℕ). take n rest ++ t) (sym (ap (drop n) is_rest) ∙ drop-drop n at bytes) ∙ ap (λ (t : List ℕ). t ++ drop (at + n) bytes) (sym front)

-- bytes that were handed on are no longer held, and all of them are as before
pub handed_on : (before after : Option (List ℕ)) (n i : ℕ) (held : List ℕ) → after ≡ appended before (take n (take (length held - i) (drop i held))) → appended after (drop (i + n) held) ≡ appended before (drop i held)
handed_on before after n i held put =
    let whole : take (length held - i) (drop i held) ≡ drop i held = take_all (length held - i) (drop i held) (omega (arith, length-drop i held)) in
    ap (λ (k : Option (List ℕ)). appended k (drop (i + n) held)) put
    ∙ appended-appended before (take n (take (length held - i) (drop i held))) (drop (i + n) held)
    ∙ ap (λ (t : List ℕ). appended before (take n t ++ drop (i + n) held)) whole
    ∙ ap (λ (t : List ℕ). appended before (take n (drop i held) ++ t)) (sym (drop-drop n i held))
    ∙ ap (appended before) (take-append-drop n (drop i held))

pub appended-nil : (known : Option (List ℕ)) → appended known [] ≡ known
appended-nil None = refl
appended-nil (Some bytes) = ap Some (append-nil bytes)

pub grows_not : (known : Option (List ℕ)) → Grows known known
grows_not known = record { more = []; grown = sym (appended-nil known) }

pub grows_twice : (a b c : Option (List ℕ)) → Grows a b → Grows b c → Grows a c
grows_twice a b c first second = record {
  more = first.more ++ second.more;
  grown = second.grown ∙ ap (λ (k : Option (List ℕ)). appended k second.more) first.grown ∙ appended-appended a first.more second.more;
}

-- so much of the piece was put
pub record PutsUpTo (old new : SinkState) (done : ℕ) (piece : List ℕ) : Type 0 where
  pub put : new.bytes ≡ appended old.bytes (take done piece)
  pub never_falls : old.faults ≤ new.faults
  pub arrives : Grows old.arrived new.arrived
  pub same_way : new.way ≡ old.way

-- the next call failed
pub put_stops : {A E : Type 0} (r : Result A E) (e : E) (old mid new : SinkState) (done : ℕ) (piece : List ℕ) → r ≡ Err e → PutsUpTo old mid done piece
    → new.bytes ≡ mid.bytes → Rose mid.faults new.faults → mid.faults ≤ new.faults → Grows mid.arrived new.arrived → new.way ≡ mid.way → Puts old new r piece
put_stops (Ok x) e old mid new done piece is so_far kept rose le arrives same = absurd cc
put_stops (Err d) e old mid new done piece is so_far kept rose le arrives same = record {
  all = tt;
  front = record { count = done; put = kept ∙ so_far.put };
  failed = omega (arith, rose, le, so_far.never_falls);
  never_falls = omega (arith, le, so_far.never_falls);
  arrives = grows_twice old.arrived mid.arrived new.arrived so_far.arrives arrives;
  same_way = same ∙ so_far.same_way;
}

pub put_goes_on_by : (old mid new : SinkState) (done n : ℕ) (piece : List ℕ) → PutsUpTo old mid done piece → new.bytes ≡ appended mid.bytes (take n (take (length piece - done) (drop done piece)))
    → mid.faults ≤ new.faults → Grows mid.arrived new.arrived → new.way ≡ mid.way → PutsUpTo old new (done + n) piece
put_goes_on_by old mid new done n piece so_far taken le arrives same = record {
  put = put_more old.bytes mid.bytes new.bytes done n piece so_far.put taken;
  never_falls = omega (arith, le, so_far.never_falls);
  arrives = grows_twice old.arrived mid.arrived new.arrived so_far.arrives arrives;
  same_way = same ∙ so_far.same_way;
}

-- where nothing of it was taken, the bytes are those of before
pub nothing_taken : (before after : Option (List ℕ)) (n : ℕ) (piece : List ℕ) → n ≡ 0 → after ≡ appended before (take n piece) → after ≡ before
nothing_taken before after n piece none taken = taken ∙ ap (λ (m : ℕ). appended before (take m piece)) none ∙ appended-nil before

pub some_left : (i : ℕ) (piece : List ℕ) → i < length piece → 0 < length (take (length piece - i) (drop i piece))
some_left i piece inside =
    let whole : take (length piece - i) (drop i piece) ≡ drop i piece = take_all (length piece - i) (drop i piece) (omega (arith, length-drop i piece)) in
    omega (arith, ap length whole, length-drop i piece)

-- ---- a sink that gathers

-- a piece is held behind what was held after a flush
pub held_behind : (s0 s1 s2 : Option (List ℕ)) (h0 h1 h2 piece : List ℕ) → appended s1 h1 ≡ appended s0 h0 → s2 ≡ s1 → h2 ≡ h1 ++ piece
    → appended s2 h2 ≡ appended (appended s0 h0) (take (length piece) piece)
held_behind s0 s1 s2 h0 h1 h2 piece flushed same held =
    ap (λ (k : Option (List ℕ)). appended k h2) same ∙ ap (appended s1) held ∙ sym (appended-appended s1 h1 piece) ∙ ap (λ (k : Option (List ℕ)). appended k piece) flushed
    ∙ ap (appended (appended s0 h0)) (sym (take_all (length piece) piece (omega arith)))

-- a piece that goes straight on, where nothing is held
pub passed_on : {E : Type 0} (r : Result ℕ E) (s0 s1 s2 : Option (List ℕ)) (h0 h1 piece : List ℕ) → appended s1 h1 ≡ appended s0 h0 → h1 ≡ []
    → IfOk r (λ n. s2 ≡ appended s1 (take n piece)) → IfOk r (λ n. appended s2 h1 ≡ appended (appended s0 h0) (take n piece))
passed_on (Err e) s0 s1 s2 h0 h1 piece flushed empty taken = tt
passed_on (Ok n) s0 s1 s2 h0 h1 piece flushed empty taken =
    let before : s1 ≡ appended s0 h0 = sym (appended-nil s1) ∙ ap (appended s1) (sym empty) ∙ flushed in
    ap (appended s2) empty ∙ appended-nil s2 ∙ taken ∙ ap (λ (k : Option (List ℕ)). appended k (take n piece)) before

-- whatever a call of `put` answers, bytes only come behind those of before
pub put_grows : {E : Type 0} (r : Result ℕ E) (before after : Option (List ℕ)) (piece : List ℕ) → IfOk r (λ n. after ≡ appended before (take n piece)) → OnErr r (after ≡ before) → Grows before after
put_grows (Ok n) before after piece taken kept = record { more = take n piece; grown = taken }
put_grows (Err e) before after piece taken kept = record { more = []; grown = kept ∙ sym (appended-nil before) }
