use Rattle.std.specs.Prelude.{◌≡◌, ℕ, List, [], ◌∷◌, ◌++◌, Bool, ◌||◌, not, cond, filter, length, None}
use Rattle.std.specs.List.{list_any}
use Rattle.casper_words.specs.Crew.{IsClient, has_member}
use Rattle.casper_trail.specs.declared.item.Item.{Item}
use Rattle.casper_trail.specs.declared.item.Item.TheVariants as item
use Rattle.casper_trail.specs.declared.mark.Mark.TheVariants.{Rollback}
use Rattle.casper_trail.specs.Association.{association_of}
use Rattle.casper_trail.specs.Modified.{is_modified_by}
use Rattle.casper_dir.specs.Rights.{AreAllClients}
use Rattle.casper_model.specs.Loss.{dropped_of}
use Rattle.casper_hub.specs.HubView.{HubView, FallenView, is_live, client_in, right_in, frame_in, page_count, felled}

-- the fall of a client by a mark after these items
abbrev pub fall_behind : List Item → ℕ → FallenView
fall_behind items who = record { mark = length items; dropped = dropped_of items who }

-- the association of a lost client was rolled back: the mark is recorded, each live member falls, a stabilisation of theirs ends, no
-- member has a right, and the server has no frame of a page that one of them modified. All else stays
pub record RollsBack (lost : ℕ) (hub after : HubView) : Type 0 where
  pub trail : after.trail ≡ hub.trail ++ item.Mark (Rollback lost (association_of hub.trail lost)) ∷ []
  pub limit : after.limit ≡ hub.limit
  pub places : length after.clients ≡ length hub.clients
  pub clients : (who : ℕ) → client_in after who
      ≡ cond (has_member who (association_of hub.trail lost)) (felled (fall_behind hub.trail who) (client_in hub who)) (client_in hub who)
  pub stabilisations : after.stabilisations ≡ filter (λ one. not (has_member one.lead (association_of hub.trail lost))) hub.stabilisations
  pub pages : page_count after ≡ page_count hub
  pub holders : AreAllClients after.pages.rights
  pub rights : (who page : ℕ) → IsClient who → right_in after who page ≡ cond (has_member who (association_of hub.trail lost)) None (right_in hub who page)
  pub frames_count : length after.pages.frames ≡ length hub.pages.frames
  pub frames : (page : ℕ) → frame_in after.pages page
      ≡ cond (is_modified_by (association_of hub.trail lost) hub.trail page) None (frame_in hub.pages page)

-- whether the trail has room for the rollback mark of a client's association: a mark is due of the client, if it is live and has not
-- fallen, and of each stabilisation of the association, which ends
abbrev pub is_mark_due : ℕ → HubView → Bool
is_mark_due lost hub = is_live hub lost || list_any (λ one. has_member one.lead (association_of hub.trail lost)) hub.stabilisations
