-- Chains of places: of each bucket the places of its keys, from the last back to the first.
use Rattle.std.specs.Prelude.{◌≡◌, ℕ, ◌+◌, ◌-◌, ◌%◌, ◌<◌, ◌≤◌, Bool, true, List, nat_eq, length, take, slice_index}
use Rattle.lang_lists.specs.Ends.{last_end}

-- the bucket of a key, where there are so many
abbrev pub bucket_of : ℕ → ℕ → ℕ
bucket_of count key = key % count

-- the key is in this bucket
abbrev pub is_in : ℕ → ℕ → ℕ → Bool
is_in count bucket key = nat_eq (bucket_of count key) bucket

-- the end of this bucket in a list of keys
abbrev pub end_in : ℕ → ℕ → List ℕ → ℕ
end_in count bucket keys = last_end (is_in count bucket) keys

-- of the first n keys each has the end before it in its bucket, and each bucket its end among them
pub record IsChained (count n : ℕ) (keys before last : List ℕ) : Type 0 where
  pub each_key : (i : ℕ) → i < n → slice_index before i ≡ end_in count (bucket_of count (slice_index keys i)) (take i keys)
  pub each_bucket : (b : ℕ) → b < count → slice_index last b ≡ end_in count b (take n keys)

-- all keys are chained; without keys there need not be buckets
pub record IsLinked (keys before last : List ℕ) : Type 0 where
  pub len : length before ≡ length keys
  pub buckets : 0 < length keys → 0 < length last
  pub chained : IsChained (length last) (length keys) keys before last

-- where the keys of a bucket part at a place: the end of the last of them before it, and that of the first from it on, which is
-- beyond the end of all keys where there is none
pub record IsParted (count bucket at : ℕ) (keys : List ℕ) (front behind : ℕ) : Type 0 where
  pub front_before : front ≤ at
  pub from : at < behind
  pub within : behind ≤ length keys + 1
  pub next : behind ≤ length keys → is_in count bucket (slice_index keys (behind - 1)) ≡ true
  pub between : front ≡ end_in count bucket (take (behind - 1) keys)
