use Rattle.std.proofs.Common.{◌≡◌, ◌==◌, ℕ, Bool, true, false, ◌||◌, cond, List, [], ◌∷◌, Option, None, Some, refl, sym, ap, ap₂, ◌∙◌}
use Rattle.std.specs.Prelude.{length, filter_map, slice_get, option_map}
use Rattle.std.specs.Option.{option_or}
use Rattle.std.specs.List.{list_any}
use Rattle.casper_words.specs.declared.page.Want.{Want}
use Rattle.casper_words.specs.Crew.{IsCrew, has_member, crew_of}
use Rattle.casper_model.specs.declared.reply.Reply.{Reply}
use Rattle.casper_model.specs.declared.reply.Reply.TheVariants as reply
use Rattle.casper_model.specs.Shared.{Shared}
use Rattle.casper_model.specs.Stabilisation.{Stabilisation}
use Rattle.casper_model.specs.Frozen.{is_member, is_modified_in}
use Rattle.casper_model.specs.Acquire.{none_missing, is_in_doubt, refused_in_doubt, refused_frozen, refused_pending}
use Rattle.casper_assoc.specs.TrailAssociations.{AssociationsView, AreMembersOf}
use Rattle.casper_gather.specs.declared.stab.Stab.{Stab}
use Rattle.casper_gather.specs.Bookkeeping.{stabilisation_of}
use Rattle.casper_gather.specs.Unended.{UnendedView}
use Rattle.casper_gather.specs.UnendedLaws.{stabilisations_of}
use Rattle.casper_frozen.specs.declared.refusal.Refusal.TheVariants as refusal
use Rattle.casper_frozen.specs.Bridge.{Keeps}
use Rattle.casper_frozen.specs.Finding.{frozen_among, is_doubt_among}
use Rattle.casper_frozen.specs.Refused.{reply_of, refused_at_once, Refuses, AreMembersOfPages, frozen_of_pages, IsFrozenOf, IsFrozenOfPages}
use Rattle.casper_frozen.specs.Laws.{RefusalComesFirst}
use Rattle.casper_frozen.proofs.Among.{empty_list, lead_is_among, frozen_is_found, doubt_is_found}
use Rattle.casper_frozen.proofs.Pages.{member_of_union}

-- nobody is refused who lacks nothing
pub nothing_missing : (unended : UnendedView) (all : AssociationsView) (who : ℕ) (missing : List Want) → (length missing == 0) ≡ true
    → Refuses unended all who missing None
nothing_missing unended all who missing empty shared keeps = sym (ap (refused_at_once shared who) (empty_list missing empty))

-- nor where nothing is unended
pub nothing_unended : (unended : UnendedView) (all : AssociationsView) (who : ℕ) (missing : List Want) → (length unended.each == 0) ≡ true
    → Refuses unended all who missing None
nothing_unended unended all who missing empty shared keeps =
    sym (refused_by (none_missing missing) shared.stabilisations (keeps.stabilisations ∙ ap stabilisations_of (empty_list unended.each empty)))
  where
    no_pages : (wants : List Want) → filter_map {X = Want} {Y = Stabilisation} (λ want. None) wants ≡ []
    no_pages [] = refl
    no_pages (want ∷ wants) = no_pages wants

    refused_by : (none : Bool) (ones : List Stabilisation) → ones ≡ []
        → cond none None (option_or (refused_in_doubt (record shared { stabilisations = ones }) who missing)
        (refused_frozen (record shared { stabilisations = ones }) who missing)) ≡ None
    refused_by true ones is = refl
    refused_by false ones is =
        ap (λ (list : List Stabilisation). option_or (refused_in_doubt (record shared { stabilisations = list }) who missing)
        (refused_frozen (record shared { stabilisations = list }) who missing)) is
        ∙ ap (λ (found : List Stabilisation). option_map reply.Frozen (option_map (λ one. one.lead) (slice_get found 0))) (no_pages missing)

-- the association of the client, and else that of the first page that belongs to one
pub own_is_frozen : (unended : UnendedView) (all : AssociationsView) (own : List ℕ) (missing : List Want) (one : Stab)
    → frozen_among own unended.each ≡ Some one → IsFrozenOf unended all own missing (Some one)
own_is_frozen unended all own missing one found shared who keeps of_client =
    ap (λ o. option_or o (slice_get (frozen_of_pages shared missing) 0))
    (sym (ap (option_map stabilisation_of) found)
    ∙ frozen_is_found shared unended.each own (is_member shared who) keeps.stabilisations (λ one. lead_is_among shared who own one of_client))

pub page_is_frozen : (unended : UnendedView) (all : AssociationsView) (own : List ℕ) (missing : List Want) (found : Option Stab)
    → frozen_among own unended.each ≡ None → IsFrozenOfPages unended all missing found → IsFrozenOf unended all own missing found
page_is_frozen unended all own missing found none of_pages shared who keeps of_client =
    of_pages shared keeps
    ∙ ap (λ o. option_or o (slice_get (frozen_of_pages shared missing) 0))
    (sym (ap (option_map stabilisation_of) none)
    ∙ frozen_is_found shared unended.each own (is_member shared who) keeps.stabilisations (λ one. lead_is_among shared who own one of_client))

-- whether there is a doubt, in each shared part that these keep
abbrev pub IsDoubt : UnendedView → AssociationsView → ℕ → List Want → Bool → Type 0
IsDoubt unended all who missing doubt = (shared : Shared) → Keeps unended all shared → is_in_doubt shared who missing ≡ doubt

-- it is found among the members of the client's association and of those of the pages
pub doubt_is_told : (unended : UnendedView) (all : AssociationsView) (who : ℕ) (missing : List Want) (own pages concerned : List ℕ)
    (each : List Stab) (found told : Bool) → AreMembersOf all who own → AreMembersOfPages all missing pages → IsCrew own → IsCrew pages
    → concerned ≡ crew_of (λ client. has_member client own || has_member client pages) → each ≡ unended.each
    → found ≡ is_doubt_among concerned each → found ≡ told → IsDoubt unended all who missing told
doubt_is_told unended all who missing own pages concerned each found told of_client of_pages is_own is_pages is same among answer shared keeps =
    sym (doubt_is_found shared unended.each concerned
    (λ one. is_member shared who one || list_any (λ want. is_modified_in shared want.page one) missing) keeps.stabilisations
    (λ one. member_of_union own pages concerned one.lead is_own is_pages is
    ∙ ap₂ (λ s t. s || t) (lead_is_among shared who own one (of_client shared.trail keeps.associations))
    (sym (of_pages shared.trail keeps.clients keeps.associations one.lead))))
    ∙ ap (is_doubt_among concerned) (sym same) ∙ sym among ∙ answer

-- something is missing, so what is refused is a doubt, and else what is frozen
some_missing : (shared : Shared) (who : ℕ) (missing : List Want) (doubt : Bool) → (length missing == 0) ≡ false
    → is_in_doubt shared who missing ≡ doubt
    → refused_at_once shared who missing ≡ option_or (cond doubt (Some reply.InDoubt) None) (refused_frozen shared who missing)
some_missing shared who [] doubt some is = cc
some_missing shared who (want ∷ missing) doubt some is =
    ap (λ b. option_or (cond b (Some reply.InDoubt) None) (refused_frozen shared who (want ∷ missing))) is

pub doubt_refuses : (unended : UnendedView) (all : AssociationsView) (who : ℕ) (missing : List Want) → (length missing == 0) ≡ false
    → IsDoubt unended all who missing true → Refuses unended all who missing (Some refusal.InDoubt)
doubt_refuses unended all who missing some doubt shared keeps = sym (some_missing shared who missing true some (doubt shared keeps))

frozen_reply : (found : Option Stab) → option_map reply_of (option_map (λ one. refusal.Frozen one.lead) found)
    ≡ option_map reply.Frozen (option_map (λ one. one.lead) (option_map stabilisation_of found))
frozen_reply None = refl
frozen_reply (Some one) = refl

pub frozen_refuses : (unended : UnendedView) (all : AssociationsView) (who : ℕ) (missing : List Want) (own : List ℕ) (found : Option Stab)
    → (length missing == 0) ≡ false → IsDoubt unended all who missing false → AreMembersOf all who own
    → IsFrozenOf unended all own missing found → Refuses unended all who missing (option_map (λ one. refusal.Frozen one.lead) found)
frozen_refuses unended all who missing own found some clear of_client frozen shared keeps =
    frozen_reply found
    ∙ ap (λ (o : Option Stabilisation). option_map reply.Frozen (option_map (λ one. one.lead) o))
    (frozen shared who keeps (of_client shared.trail keeps.associations))
    ∙ sym (some_missing shared who missing false some (clear shared keeps))

-- of three replies the first counts
in_order : (none : Bool) (first second third : Option Reply)
    → cond none None (option_or first (option_or second third)) ≡ option_or (cond none None (option_or first second)) (cond none None third)
in_order true first second third = refl
in_order false None None third = refl
in_order false None (Some reply) third = refl
in_order false (Some reply) second third = refl

pub refusal_comes_first : RefusalComesFirst
refusal_comes_first shared who given missing =
    in_order (none_missing missing) (refused_in_doubt shared who missing) (refused_frozen shared who missing)
    (refused_pending shared who given missing)
