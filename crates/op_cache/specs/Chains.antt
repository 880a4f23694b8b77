-- How a memo finds its pairs: each entry has a link to the last one before it in its bucket, and each bucket has a head.
use Rattle.std.specs.Prelude.{◌≡◌, ◌≢◌, ℕ, suc, ◌-◌, ◌*◌, ◌/◌, ◌%◌, ◌^◌, ◌<◌, ◌≤◌, List, length, map, nat_eq, if◌then◌else◌, Some, slice_get, slice_index_or, bit_and, bit_xor, false}
use Rattle.op_cache.specs.declared.key.TheConstants.{LEFT, RIGHT, OPERATION}
use Rattle.op_cache.specs.declared.key.Place.{Place}
use Rattle.op_cache.specs.Keys.{same_place}
use Rattle.op_cache.specs.declared.heads.Head.{Head}
use Rattle.op_cache.specs.declared.chains.Entry.{Entry}

-- the hash of a place: the products of its numbers with odd constants modulo 2^64, their bits added without carries, and of that the upper half
unfoldable pub hash_of : Place → ℕ
hash_of p = bit_xor (bit_xor (p.left * LEFT % 2 ^ 64) (p.right * RIGHT % 2 ^ 64)) (p.op * OPERATION % 2 ^ 64) / 2 ^ 32

-- the bucket of a place, of so many
abbrev pub bucket_of : ℕ → Place → ℕ
bucket_of window p = bit_and (hash_of p) (window - 1)

-- a link to the last of the first n places that stand in bucket b: one more than its index, or 0 where none does
pub record IsLastIn (places : List Place) (window b n link : ℕ) : Type 0 where
  pub within : link ≤ n
  pub here : (i : ℕ) (p : Place) → link ≡ suc i → slice_get places i ≡ Some p → bucket_of window p ≡ b
  pub after : (i : ℕ) (p : Place) → link ≤ i → i < n → slice_get places i ≡ Some p → bucket_of window p ≢ b

-- the link at the head of a bucket, where one was set in this round
abbrev pub first_link : List Head → ℕ → ℕ → ℕ
first_link heads round b =
    let head = slice_index_or heads b (record { round = 0; link = 0 }) in
    if nat_eq head.round round then head.link else 0

-- the places of entries
abbrev pub places : {H : Type 0} → List (Entry H) → List Place
places entries = map (λ e. e.place) entries

-- the entries as pairs of a place and a result
abbrev pub pairs_of : {H : Type 0} → List (Entry H) → List (Place × H)
pairs_of entries = map (λ e. (e.place, e.result)) entries

-- each head and each link leads to the last entry before it in its bucket
pub record AreLinked {H : Type 0} (entries : List (Entry H)) (heads : List Head) (window round : ℕ) : Type 0 where
  pub heads_lead : (b : ℕ) → IsLastIn (places entries) window b (length entries) (first_link heads round b)
  pub links_lead : (i : ℕ) (e : Entry H) → slice_get entries i ≡ Some e → IsLastIn (places entries) window (bucket_of window e.place) i e.link

-- the entries after the link don't have the place, and the one that it leads to stands in the place's bucket
pub record ArePassed {H : Type 0} (entries : List (Entry H)) (window : ℕ) (place : Place) (link : ℕ) : Type 0 where
  pub within : link ≤ length entries
  pub here : (i : ℕ) (e : Entry H) → link ≡ suc i → slice_get entries i ≡ Some e → bucket_of window e.place ≡ bucket_of window place
  pub others : (i : ℕ) (e : Entry H) → link ≤ i → slice_get entries i ≡ Some e → same_place place e.place ≡ false
