-- The list of ids, as links and a map from ids to slots keep it.
use Rattle.std.specs.Prelude.{◌≡◌, ◌≢◌, ◌⊎◌, ℕ, ◌+◌, ◌<◌, ◌≤◌, ◌^◌, ◌==◌, if◌then◌else◌, List, [], ◌∷◌, ◌++◌, map, Option, Some, None, nat_eq}
use Rattle.std.specs.HashMap.{HashMap, get as get_slot, spare as room_of}
use Rattle.slab.specs.Slab.{Slab, get, ContainsKey, HasRoomFor}
use Rattle.order_labels.specs.declared.links.Link.{Link}
use Rattle.order_labels.specs.declared.links.Slot.{Slot}
use Rattle.order_labels.specs.Lists.{IsIn}
use Rattle.order_labels.specs.Chain.{link_at, id_of, slots_of, IsOrder}

-- different ids in order, and how many more go in without memory
pub record Listed : Type 0 where
  pub ids : List ℕ
  pub spare : ℕ

abbrev pub ids_of : (ℕ → Link) → ℕ → List ℕ
ids_of links count = map (id_of links) (slots_of links count)

-- the id of a slot, where it isn't the head
abbrev pub id_at : (ℕ → Link) → ℕ → Option ℕ
id_at links x = if x == 0 then None else Some (id_of links x)

-- The map has the slot of each id, and no more.
pub record Finds {S : Type 0} (slots : HashMap ℕ Slot S) (links : ℕ → Link) (xs : List ℕ) : Type 0 where
  pub there : (x : ℕ) → IsIn x xs → get_slot nat_eq slots (id_of links x) ≡ Some (record { 0 = x })
  pub only : (id : ℕ) (s : Slot) → get_slot nat_eq slots id ≡ Some s → IsIn s.0 xs × (id_of links s.0 ≡ id)

pub record IsLabels {S : Type 0} (links : Slab Link) (slots : HashMap ℕ Slot S) (count spare : ℕ) : Type 0 where
  pub order : IsOrder (link_at links) count
  pub finds : Finds slots (link_at links) (slots_of (link_at links) count)
  pub head : 0 < count + spare → ContainsKey links 0
  pub first : get links 0 ≡ None → links.vacant_key ≡ 0
  pub free : HasRoomFor links spare
  pub room : spare ≤ room_of slots
  pub few : count + spare ≤ 2 ^ 40

-- the slots behind begin with this one, or there are none and it is the head
abbrev pub Begins : ℕ → List ℕ → Type 0
Begins at vs = ((at ≡ 0) × (vs ≡ [])) ⊎ ((ws : List ℕ) × (vs ≡ at ∷ ws))

-- A new slot stands just before another one.
pub record Places (old new : ℕ → Link) (count x at id : ℕ) : Type 0 where
  pub order : IsOrder new (count + 1)
  pub us : List ℕ
  pub vs : List ℕ
  pub was : slots_of old count ≡ us ++ vs
  pub is : slots_of new (count + 1) ≡ us ++ x ∷ vs
  pub begins : Begins at vs
  pub fresh : ¬ IsIn x (us ++ vs)
  pub named : id_of new x ≡ id
  pub names : (y : ℕ) → y ≢ x → id_of new y ≡ id_of old y

-- A slot is no longer in the list.
pub record Takes (old new : ℕ → Link) (count x : ℕ) : Type 0 where
  pub order : IsOrder new count
  pub us : List ℕ
  pub vs : List ℕ
  pub was : slots_of old (count + 1) ≡ us ++ x ∷ vs
  pub is : slots_of new count ≡ us ++ vs
  pub fresh : ¬ IsIn x (us ++ vs)
  pub names : (y : ℕ) → y ≢ x → id_of new y ≡ id_of old y
