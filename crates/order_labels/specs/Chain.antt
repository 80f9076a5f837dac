-- Slots that are linked both ways through slot 0, the head, and ordered by labels.
use Rattle.std.specs.Prelude.{◌≡◌, ◌≢◌, ℕ, zero, suc, ◌+◌, ◌*◌, ◌<◌, ◌≤◌, ◌==◌, if◌then◌else◌, List, [], ◌∷◌, Option, Some, None}
use Rattle.slab.specs.Slab.{Slab, get, slab_len, ContainsKey}
use Rattle.order_labels.specs.declared.links.Link.{Link}

-- what a slot that holds nothing reads as
abbrev pub no_link : Link
no_link = record { label = 0; id = 0; prev = record { 0 = 0 }; next = record { 0 = 0 } }

abbrev pub link_or : Option Link → Link
link_or None = no_link
link_or (Some k) = k

abbrev pub link_at : Slab Link → ℕ → Link
link_at s x = link_or (get s x)

abbrev pub label_of : (ℕ → Link) → ℕ → ℕ
label_of links x = (links x).label

abbrev pub id_of : (ℕ → Link) → ℕ → ℕ
id_of links x = (links x).id

abbrev pub prev_of : (ℕ → Link) → ℕ → ℕ
prev_of links x = (links x).prev.0

abbrev pub next_of : (ℕ → Link) → ℕ → ℕ
next_of links x = (links x).next.0

-- One slot gets another link.
pub record Sets (old new : ℕ → Link) (x : ℕ) (link : Link) : Type 0 where
  pub here : new x ≡ link
  pub others : (y : ℕ) → y ≢ x → new y ≡ old y

-- A slot is put before another one.
pub record Inserts (old new : ℕ → Link) (x at label id : ℕ) : Type 0 where
  pub into : next_of new (prev_of old at) ≡ x
  pub out : next_of new x ≡ at
  pub back_into : prev_of new at ≡ x
  pub back_out : prev_of new x ≡ prev_of old at
  pub labelled : label_of new x ≡ label
  pub named : id_of new x ≡ id
  pub nexts : (y : ℕ) → y ≢ prev_of old at → y ≢ x → next_of new y ≡ next_of old y
  pub prevs : (y : ℕ) → y ≢ at → y ≢ x → prev_of new y ≡ prev_of old y
  pub labels : (y : ℕ) → y ≢ x → label_of new y ≡ label_of old y
  pub names : (y : ℕ) → y ≢ x → id_of new y ≡ id_of old y

-- A slot is taken out.
pub record Skips (old new : ℕ → Link) (x : ℕ) : Type 0 where
  pub onward : next_of new (prev_of old x) ≡ next_of old x
  pub back : prev_of new (next_of old x) ≡ prev_of old x
  pub nexts : (y : ℕ) → y ≢ prev_of old x → y ≢ x → next_of new y ≡ next_of old y
  pub prevs : (y : ℕ) → y ≢ next_of old x → y ≢ x → prev_of new y ≡ prev_of old y
  pub labels : (y : ℕ) → y ≢ x → label_of new y ≡ label_of old y
  pub gone : new x ≡ no_link
  pub names : (y : ℕ) → y ≢ x → id_of new y ≡ id_of old y

-- The same keys have values, and as many more fit.
pub record KeepsRoom (old new : Slab Link) : Type 0 where
  pub len : slab_len new ≡ slab_len old
  pub capacity : new.capacity ≡ old.capacity
  pub keys : (x : ℕ) → ContainsKey old x → ContainsKey new x

-- so many slots, read off the links after a slot
abbrev pub walk : (ℕ → ℕ) → ℕ → ℕ → List ℕ
walk next zero from = []
walk next (suc count) from = next from ∷ walk next count (next from)

-- so many steps from a slot
abbrev pub go : (ℕ → ℕ) → ℕ → ℕ → ℕ
go next a zero = a
go next a (suc n) = go next (next a) n

-- the links lead from one slot through these to the other one, and back, and labels rise
abbrev pub IsChain : (ℕ → ℕ) → (ℕ → ℕ) → (ℕ → ℕ) → ℕ → List ℕ → ℕ → Type 0
IsChain next prev label from [] to = (next from ≡ to) × (prev to ≡ from)
IsChain next prev label from (x ∷ xs) to = (next from ≡ x) × (prev x ≡ from) × (label from < label x) × IsChain next prev label x xs to

-- the slots of the list
unfoldable pub slots_of : (ℕ → Link) → ℕ → List ℕ
slots_of links count = walk (next_of links) count 0

-- no label is this great
abbrev pub top : ℕ
top = 9223372036854775808

-- So many slots are linked in a ring through the head, and their labels rise.
pub record IsOrder (links : ℕ → Link) (count : ℕ) : Type 0 where
  pub head : label_of links 0 ≡ 0
  pub under : (x : ℕ) → label_of links x < top
  pub chain : IsChain (next_of links) (prev_of links) (label_of links) 0 (slots_of links count) 0

-- the label where the gap before a slot ends
abbrev pub limit_of : (ℕ → Link) → ℕ → ℕ
limit_of links x = if x == 0 then top else label_of links x

-- The slot is the head, or stands in the list.
pub record IsPlaced (links : ℕ → Link) (count x : ℕ) : Type 0 where
  pub place : ℕ
  pub within : place ≤ count
  pub here : x ≡ go (next_of links) 0 (suc place)

-- So many slots stand between two others, and the gap before a slot is among or beside them.
pub record IsStretch (links : ℕ → Link) (count at before len after : ℕ) : Type 0 where
  pub start : ℕ
  pub place : ℕ
  pub within : start + len ≤ count
  pub from : before ≡ go (next_of links) 0 start
  pub to : after ≡ go (next_of links) 0 (suc (start + len))
  pub here : at ≡ go (next_of links) 0 (suc place)
  pub low : start ≤ place
  pub high : place ≤ start + len

-- So many slots behind one get labels that are a step apart.
pub record Spreads (old new : ℕ → Link) (before len base step : ℕ) : Type 0 where
  pub nexts : (y : ℕ) → next_of new y ≡ next_of old y
  pub prevs : (y : ℕ) → prev_of new y ≡ prev_of old y
  pub names : (y : ℕ) → id_of new y ≡ id_of old y
  pub labels : (i : ℕ) → 1 ≤ i → i ≤ len → label_of new (go (next_of old) before i) ≡ base + i * step
  pub others : (y : ℕ) → ((i : ℕ) → 1 ≤ i → i ≤ len → y ≢ go (next_of old) before i) → label_of new y ≡ label_of old y

-- Labels change, and nothing else.
pub record Relabels (old new : ℕ → Link) (count : ℕ) : Type 0 where
  pub nexts : (y : ℕ) → next_of new y ≡ next_of old y
  pub prevs : (y : ℕ) → prev_of new y ≡ prev_of old y
  pub names : (y : ℕ) → id_of new y ≡ id_of old y
  pub order : IsOrder new count
