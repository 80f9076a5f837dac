-- What each edit keeps.
use Rattle.std.proofs.Common.{◌≡◌, ◌≢◌, ℕ, ◌+◌, ◌-◌, ◌<◌, ◌≤◌, ◌^◌, List, [], ◌∷◌, length, Option, Some, None, nat_eq, refl, sym, ap, ◌∙◌, subst, arith}
use Rattle.std.specs.Prelude.{IsSome}
use Rattle.std.specs.Map.{lookup}
use Rattle.std.specs.HashMap.{HashMap, get as get_slot, spare as room_of}
use Rattle.slab.specs.Slab.{Slab, get, slab_len, ContainsKey, HasRoomFor}
use Rattle.order_labels.specs.declared.links.Link.{Link}
use Rattle.order_labels.specs.declared.links.Slot.{Slot}
use Rattle.order_labels.specs.Lists.{IsIn}
use Rattle.order_labels.specs.Chain.{link_at, slots_of, id_of, IsOrder}
use Rattle.order_labels.specs.Labels.{Finds, Places, Takes, IsLabels, ids_of}
use Rattle.order_labels.proofs.Seen.{put_finds, take_finds, finds_same, slot}

-- a key with a value is not none
no_none : (s : Slab Link) → ContainsKey s 0 → get s 0 ≡ None → ⊥
no_none s k n =
    let P : Option Link → Type 0 = λ o. IsSome o in
    let bad : P None = subst P n k in
    cc

pub same_links : (s t : Slab Link) → ((x : ℕ) → link_at t x ≡ link_at s x) → link_at s ≡ link_at t
same_links s t h = λ i x. sym (h x) i

module _ {S : Type 0} where
  pub with_room : (links links' : Slab Link) (m n : HashMap ℕ Slot S) (count spare spare' : ℕ) → IsLabels links m count spare → ((x : ℕ) → link_at links' x ≡ link_at links x)
      → ((q : ℕ) → get_slot nat_eq n q ≡ get_slot nat_eq m q) → (0 < count + spare' → ContainsKey links' 0) → (get links' 0 ≡ None → links'.vacant_key ≡ 0) → HasRoomFor links' spare'
      → spare' ≤ room_of n → count + spare' ≤ 2 ^ 40 → IsLabels links' n count spare'
  with_room links links' m n count spare spare' o same gets head first free room few =
      let e = same_links links links' same in
      record {
        order = subst (λ f. IsOrder f count) e o.order;
        finds = subst (λ f. Finds n f (slots_of f count)) e (finds_same m n (link_at links) (slots_of (link_at links) count) gets o.finds);
        head = head;
        first = first;
        free = free;
        room = room;
        few = few;
      }

  pub put_labels : (links links' : Slab Link) (m n : HashMap ℕ Slot S) (count spare x at id : ℕ) → IsLabels links m count spare → Places (link_at links) (link_at links') count x at id
      → ¬ IsIn id (ids_of (link_at links) count) → get_slot nat_eq n id ≡ Some (slot x) → ((y : ℕ) → y ≢ id → get_slot nat_eq n y ≡ get_slot nat_eq m y)
      → slab_len links' ≡ slab_len links + 1 → links'.capacity ≡ links.capacity → ContainsKey links' 0 → room_of m ≤ room_of n + 1 → 0 < spare → IsLabels links' n (count + 1) (spare - 1)
  put_labels links links' m n count spare x at id o p absent here others len capacity head room some = record {
    order = p.order;
    finds = put_finds m n (link_at links) (link_at links') count x at id p o.finds absent here others;
    head = λ l. head;
    first = λ e. absurd (no_none links' head e);
    free = omega (arith, o.free, len, capacity, some);
    room = omega (arith, o.room, room, some);
    few = omega (arith, o.few, some);
  }

  pub take_labels : (links links' : Slab Link) (m n : HashMap ℕ Slot S) (count spare x : ℕ) → IsLabels links m (count + 1) spare → Takes (link_at links) (link_at links') count x
      → get_slot nat_eq n (id_of (link_at links) x) ≡ None → ((y : ℕ) → y ≢ id_of (link_at links) x → get_slot nat_eq n y ≡ get_slot nat_eq m y)
      → slab_len links' + 1 ≡ slab_len links → links'.capacity ≡ links.capacity → ContainsKey links' 0 → room_of m ≤ room_of n → IsLabels links' n count spare
  take_labels links links' m n count spare x o t none others len capacity head room = record {
    order = t.order;
    finds = take_finds m n (link_at links) (link_at links') count x t o.finds none others;
    head = λ l. head;
    first = λ e. absurd (no_none links' head e);
    free = omega (arith, o.free, len, capacity);
    room = omega (arith, o.room, room);
    few = omega (arith, o.few);
  }

only_none : {S : Type 0} (m : HashMap ℕ Slot S) → m.entries ≡ [] → (id : ℕ) (s : Slot) → get_slot nat_eq m id ≡ Some s → ⊥
only_none m none id s g =
    let no : get_slot nat_eq m id ≡ None = ap (lookup (nat_eq id)) none in
    let bad : None ≡ Some s = sym no ∙ g in
    cc

pub no_labels : {S : Type 0} (links : Slab Link) (m : HashMap ℕ Slot S) → links.slots ≡ [] → links.vacant_key ≡ 0 → m.entries ≡ [] → IsLabels links m 0 0
unfolding slots_of
no_labels links m empty first none =
    let e : link_at (record links { slots = [] }) ≡ link_at links = ap (λ l. link_at (record links { slots = l })) (sym empty) in
    record {
      order = subst (λ f. IsOrder f 0) e (record { head = refl; under = λ x. omega arith; chain = (refl, refl) });
      finds = record { there = λ x i. absurd i; only = λ id s g. absurd (only_none m none id s g) };
      head = λ l. absurd (omega arith);
      first = λ _. first;
      free = omega (arith, ap (λ l. slab_len (record links { slots = l })) empty);
      room = omega arith;
      few = omega arith;
    }

pub some_in : (x : ℕ) (xs : List ℕ) → IsIn x xs → 0 < length xs
some_in x [] i = absurd i
some_in x (y ∷ ys) i = omega arith
