-- One subject more was looked at.
use Rattle.std.proofs.Common.{◌≡◌, ◌+◌, ◌∙◌, ℕ, suc, inl, inr, refl, ap, subst, arith}
use Rattle.rx_desk.specs.EventDesks.{EventView, KeepsRest, LookedAt}
use Rattle.rx_desk.specs.SessionDesks.{Looks, LooksAt, SessionView}
use Rattle.rx_desk.specs.declared.client_sink.ClientSink.{ClientSink}
use Rattle.rx_desk.proofs.event_desk.EventDesk.look.Goals as goal

next : (count : ℕ) → suc count ≡ count + 1
next count = omega arith

module _ {M W : Type 0} where
  one-more : (count : ℕ) (a b c : EventView M (ClientSink W)) → LookedAt count a b → LooksAt b.session count c.session → KeepsRest b c → LookedAt (count + 1) a c
  one-more count a b c (looks, rest) at kept = (
    subst (λ n. Looks n a.session c.session) (next count) (b.session, looks, at),
    record { is_well = kept.is_well ∙ rest.is_well; held = kept.held ∙ rest.held; asking = kept.asking ∙ rest.asking; kept = kept.kept ∙ rest.kept; epoch = kept.epoch ∙ rest.epoch; grants = kept.grants ∙ rest.grants; stopping = kept.stopping ∙ rest.stopping },
  )

  same-subjects : (s t : SessionView M (ClientSink W)) (subject : ℕ) → LooksAt s subject t → t.subjects ≡ s.subjects
  same-subjects s t subject (inl same) = ap (λ (v : SessionView M (ClientSink W)). v.subjects) same
  same-subjects s t subject (inr asks) = asks.kept.subjects

pub loop-place-init : goal.loop-place-init
loop-place-init g c = ((refl, record { is_well = refl; held = refl; asking = refl; kept = refl; epoch = refl; grants = refl; stopping = refl }), refl)

pub loop-place-preserved : goal.loop-place-preserved
loop-place-preserved g c = (
  one-more c.loop-place.place _ _ _ c.loop-place.invariant.0 c.look_at.ensures.looks c.look_at.ensures.rest,
  same-subjects _ _ _ c.look_at.ensures.looks ∙ c.loop-place.invariant.1,
)

pub returns-in_err-push : goal.returns-in_err-push
returns-in_err-push g c = (c.loop-place.place + 1, one-more c.loop-place.place _ _ _ c.loop-place.invariant.0 c.look_at.ensures.looks c.look_at.ensures.rest)
