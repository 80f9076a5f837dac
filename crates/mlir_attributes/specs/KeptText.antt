-- The text of a kept body, in which the aliases that were defined before are replaced by their printed text.
use Rattle.std.specs.Prelude.{ℕ, zero, suc, ◌+◌, ◌-◌, Bool, true, false, ◌&&◌, ◌||◌, not, ◌==◌, nat_le, nat_lt, if◌then◌else◌, List, [], ◌∷◌, ◌++◌, length, take, slice_index, Option, Some, None, Result, Ok, Err, Vec}
use Rattle.std.specs.declared.alloc.Global.{Global}
use Rattle.std.specs.Option.{option_map_or}
use Rattle.text_scan.specs.Strings.{string_end}
use Rattle.mlir_lexer.specs.Scan.{suffix_len}
use Rattle.mlir_lexer.specs.Body.{effect_of, innermost, outer, closer}
use Rattle.mlir_lexer.specs.declared.body.Effect.{Effect}
use Rattle.mlir_lexer.specs.declared.body.Effect.TheVariants.{Opens, Closes, Fails, Passes}
use Rattle.mlir_attributes.specs.declared.aliases.Alias.{Alias}
use Rattle.mlir_attributes.specs.declared.aliases.Meaning.{Meaning}
use Rattle.mlir_attributes.specs.declared.aliases.Meaning.TheVariants as meanings
use Rattle.mlir_attributes.specs.Aliases.{find, has_point, max_put}

abbrev pub is_location : Meaning → Bool
is_location (meanings.Ty t) = false
is_location (meanings.Attr x) = false
is_location meanings.Location = true

-- An alias that stands for a location stays as it is written.
abbrev pub unless_location : Option Alias → Option Alias
unless_location None = None
unless_location (Some a) = if is_location a.meaning then None else Some a

-- a name of this length, which has no point, doesn't end in `-` and isn't followed by `<`
abbrev pub may_be_used : List ℕ → ℕ → Bool
may_be_used s n = nat_lt 0 n && not (has_point (take n s)) && not (slice_index s (n - 1) == 45) && not (slice_index s n == 60)

abbrev pub is_mark : ℕ → Bool
is_mark b = b == 35 || b == 33

-- The alias whose name, with its `#` or `!`, stands at the front of this part of a body.
unfoldable pub used_at : List Alias → List ℕ → Option Alias
used_at aliases [] = None
used_at aliases (b ∷ s) =
    if is_mark b && may_be_used s (suffix_len s) then unless_location (find (b ∷ take (suffix_len s) s) aliases) else None

-- A space stands behind a text that ends in `-`.
abbrev pub put_text : Alias → List ℕ
put_text a = if slice_index a.text (length a.text - 1) == 45 then a.text ++ 32 ∷ [] else a.text

-- The alias's text may stand where so many brackets may be opened, so many of them are open, and so much was put in.
abbrev pub fits : ℕ → Alias → ℕ → ℕ → Bool
fits room a count put = nat_le (a.brackets + count) room && nat_le (put + length a.text) max_put

-- The text and how much was put in for aliases by then, or the place of the alias that passes a limit.
abbrev pub Names : Type 0
Names = Result (List ℕ × ℕ) ℕ

abbrev pub in_front : List ℕ → Names → Names
in_front t (Ok p) = Ok (t ++ p.0, p.1)
in_front t (Err at) = Err at

-- what closes each open bracket behind a byte, the innermost first
abbrev pub closers_after : Effect → ℕ → List ℕ → List ℕ
closers_after Opens b cs = closer b ∷ cs
closers_after Closes b cs = outer cs
closers_after Fails b cs = cs
closers_after Passes b cs = cs

abbrev pub or_use : {A : Type 0} → Option Alias → (Alias → A) → A → A
or_use None used plain = plain
or_use (Some a) used plain = used a

-- The text of the rest of a body, which stands at this place in it. The list has what closes each open bracket, the innermost
-- first; `dash` says that the byte before is `-`; the first `skipped` bytes were put already; `put` was put in for aliases by then.
abbrev pub names : List Alias → ℕ → List ℕ → Bool → ℕ → ℕ → ℕ → List ℕ → Names
names aliases room closers dash skipped put at [] = Ok ([], put)
names aliases room closers dash (suc n) put at (b ∷ s) = names aliases room closers false n put (at + 1) s
names aliases room closers dash zero put at (b ∷ s) =
    if b == 34 then option_map_or (λ end. in_front (take (end - at) (b ∷ s)) (names aliases room closers false (end - (at + 1)) put (at + 1) s)) (string_end at (b ∷ s)) (Ok ([], put))
    else or_use (used_at aliases (b ∷ s))
    (λ a. if fits room a (length closers) put then in_front (put_text a) (names aliases room closers false (suffix_len s) (put + length a.text) (at + 1) s) else Err at)
    (in_front (b ∷ []) (names aliases room (closers_after (effect_of b (slice_index s 0) dash (innermost closers)) b closers) (b == 45) 0 put (at + 1) s))

-- What a call answers, seen as what it stands for.
abbrev pub seen : Result (Vec ℕ Global × ℕ) ℕ → Names
seen (Ok p) = Ok (p.0.items, p.1)
seen (Err at) = Err at
