use Rattle.std.specs.Prelude.{◌≡◌, ℕ, ◌<◌, List}
use Rattle.casper_words.specs.declared.call.Op.TheVariants as op
use Rattle.casper_cache.specs.Holding.{word_of}
use Rattle.casper_cache.specs.Own as cache
use Rattle.casper_trail.specs.Image.{image_of}
use Rattle.casper_hub.specs.HubView.{HubView, is_live, page_count}
use Rattle.casper_hub.specs.Owned.{Owns}
use Rattle.casper_hub.specs.Words.{CacheIsRight, seen_value}
use Rattle.casper_hub.specs.GoesOn.{KeepsClient, CommitsNothing}
use Rattle.casper_hub.specs.Sound.{IsSound}

-- what a client may rely on stands while nothing happens
abbrev pub KeptItself : Type 0
KeptItself = (who : ℕ) (hub : HubView) → KeepsClient who hub hub

-- what a client may rely on stands while one thing happens after another
abbrev pub KeptAgain : Type 0
KeptAgain = (who : ℕ) (first second third : HubView) → KeepsClient who first second → KeepsClient who second third → KeepsClient who first third

-- nothing is committed while nothing happens
abbrev pub CommitsNothingItself : Type 0
CommitsNothingItself = (hub : HubView) → CommitsNothing hub hub

-- nothing is committed while one thing happens after another that commits nothing
abbrev pub CommitsNothingAgain : Type 0
CommitsNothingAgain = (first second third : HubView) → CommitsNothing first second → CommitsNothing second third → CommitsNothing first third

-- while nothing is committed the stable image stands
abbrev pub ImageStands : Type 0
ImageStands = (hub after : HubView) → IsSound hub → CommitsNothing hub after → (base : List (List ℕ)) → image_of base after.trail ≡ image_of base hub.trail

-- a client stays live or absent while others act
abbrev pub LiveWhileKept : Type 0
LiveWhileKept = (who : ℕ) (hub after : HubView) → IsSound hub → KeepsClient who hub after → is_live after who ≡ is_live hub who

-- the store has as many pages while others act
abbrev pub PagesWhileKept : Type 0
PagesWhileKept = (who : ℕ) (hub after : HubView) → IsSound hub → KeepsClient who hub after → page_count after ≡ page_count hub

-- a cache stays that of its client while others act, also where its client falls
abbrev pub OwnsWhileKept : Type 0
OwnsWhileKept = (hub after : HubView) (own : cache.Own) → IsSound hub → Owns hub own → KeepsClient own.client hub after → Owns after own

-- the words of a cache stay right while others act, also where its client falls
abbrev pub RightWhileKept : Type 0
RightWhileKept = (base : List (List ℕ)) (hub after : HubView) (own : cache.Own) → IsSound hub → Owns hub own → KeepsClient own.client hub after
    → CacheIsRight base hub own → CacheIsRight base after own

-- and after a hit
abbrev pub OwnsBehindRead : Type 0
OwnsBehindRead = (hub : HubView) (own : cache.Own) (page word value : ℕ) → Owns hub own → cache.CanRead own page
    → Owns hub (cache.after_read own (record { op = op.Read; page = page; word = word; value = value }))

abbrev pub OwnsBehindWrite : Type 0
OwnsBehindWrite = (hub : HubView) (own : cache.Own) (page word value : ℕ) → Owns hub own → cache.CanWrite own page
    → Owns hub (cache.after_write own (record { op = op.Write; page = page; word = word; value = value }))

abbrev pub RightBehindRead : Type 0
RightBehindRead = (base : List (List ℕ)) (hub : HubView) (own : cache.Own) (page word value : ℕ) → Owns hub own → CacheIsRight base hub own
    → CacheIsRight base hub (cache.after_read own (record { op = op.Read; page = page; word = word; value = value }))

abbrev pub RightBehindWrite : Type 0
RightBehindWrite = (base : List (List ℕ)) (hub : HubView) (own : cache.Own) (page word value : ℕ) → word < 512 → Owns hub own → cache.CanWrite own page
    → CacheIsRight base hub own
    → CacheIsRight base hub (cache.after_write own (record { op = op.Write; page = page; word = word; value = value }))

-- a hit reads what its client sees
abbrev pub HitsReadWhatIsSeen : Type 0
HitsReadWhatIsSeen = (base : List (List ℕ)) (hub : HubView) (own : cache.Own) (page word : ℕ) → word < 512 → CacheIsRight base hub own → cache.CanRead own page
    → word_of page word own.held ≡ seen_value base hub own page word
