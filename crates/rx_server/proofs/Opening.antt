-- Boxes that are opened one by one, and hubs that are made so.
use Rattle.std.proofs.Common.{◌≡◌, ◌∙◌, sym, refl, ap, subst, ℕ, ◌+◌, ◌<◌, List, [], ◌∷◌, ◌++◌, length, map, take, get_or, length-append}
use Rattle.std.proofs.lemmas.List.{map_more, map_push}
use Rattle.std.proofs.lemmas.List.Elements.{All-nil, All-push}
use Rattle.std.proofs.lemmas.List.FromFn.{length-map-range_with_len}
use Rattle.rx_history.specs.Histories.{NoEvents}
use Rattle.rx_hub.specs.Hubs.{HubView, StandsFor}
use Rattle.rx_note.specs.declared.rules.Rules.{Rules}
use Rattle.rx_mailbox.specs.Boxes.{Box, Outgoing, Incoming, outgoing, incoming, capacity_of}
use Rattle.rx_config.specs.declared.subject_config.SubjectConfig.{SubjectConfig}
use Rattle.rx_server.specs.Wirings.{RowView, AreHubsOf, AreOpened, ports_from, whole_row}

module _ {B : Type 0} where
  -- a box's ports are as many as they are
  pub ports-count : (box : Box B) (n : ℕ) (ports : List (Outgoing B)) → ports ≡ ports_from box 0 n → length ports ≡ n
  ports-count box n ports are = ap length are ∙ length-map-range_with_len (λ number. outgoing box number []) 0 n

  pub ports-whole : (box : Box B) (n m : ℕ) (ports : List (Outgoing B)) → m ≡ length ports → ports ≡ ports_from box 0 n → ports ≡ ports_from box 0 m
  ports-whole box n m ports count are =
      subst (λ (k : ℕ). ports ≡ ports_from box 0 k) (sym (count ∙ ports-count box n ports are)) are

  pub Opened-none : (capacity senders : ℕ) (inboxes : List (Incoming B)) (rows : List (RowView B))
      → inboxes ≡ [] → rows ≡ [] → AreOpened 0 capacity senders [] inboxes rows
  Opened-none capacity senders inboxes rows no_inboxes no_rows = record {
    count_is = refl;
    capacities = All-nil (λ (box : Box B). capacity_of box ≡ capacity);
    inboxes_are = no_inboxes;
    rows_are = no_rows;
  }

  pub Opened-more : (count capacity senders : ℕ) (boxes : List (Box B)) (inboxes after : List (Incoming B)) (rows rows_after : List (RowView B)) (box : Box B)
      → AreOpened count capacity senders boxes inboxes rows → capacity_of box ≡ capacity
      → after ≡ inboxes ++ incoming box senders [] ∷ [] → rows_after ≡ rows ++ whole_row senders box ∷ []
      → AreOpened (count + 1) capacity senders (boxes ++ box ∷ []) after rows_after
  Opened-more count capacity senders boxes inboxes after rows rows_after box opened holds put row_put = record {
    count_is = length-append boxes (box ∷ []) ∙ ap (λ (n : ℕ). n + 1) opened.count_is;
    capacities = All-push (λ (b : Box B). capacity_of b ≡ capacity) boxes box opened.capacities holds;
    inboxes_are =
        put ∙ ap (λ (l : List (Incoming B)). l ++ incoming box senders [] ∷ []) opened.inboxes_are
        ∙ sym (map_push (λ (b : Box B). incoming b senders []) boxes box);
    rows_are =
        row_put ∙ ap (λ (l : List (RowView B)). l ++ whole_row senders box ∷ []) opened.rows_are
        ∙ sym (map_push (whole_row senders) boxes box);
  }

-- HUBS

pub Hubs-none : (hubs : List HubView) → hubs ≡ [] → AreHubsOf [] hubs
Hubs-none hubs none = subst (λ (l : List HubView). AreHubsOf [] l) (sym none) (record {
  rules = refl;
  fresh = All-nil (λ (hub : HubView). StandsFor hub.state NoEvents);
  misses = All-nil (λ (hub : HubView). hub.misses ≡ 0);
})

pub Hubs-more : (subjects : List SubjectConfig) (i : ℕ) (subject : SubjectConfig) (hubs after : List HubView) (hub : HubView)
    → i < length subjects → subject ≡ get_or subjects i subject → AreHubsOf (take i subjects) hubs → after ≡ hubs ++ hub ∷ []
    → hub.state.rules ≡ subject.rules → StandsFor hub.state NoEvents → hub.misses ≡ 0 → AreHubsOf (take (i + 1) subjects) after
Hubs-more subjects i subject hubs after hub within is so_far put rules fresh misses =
    subst (λ (l : List HubView). AreHubsOf (take (i + 1) subjects) l) (sym put) (record {
      rules =
          map_push (λ (h : HubView). h.state.rules) hubs hub
          ∙ ap (λ (l : List Rules). l ++ hub.state.rules ∷ []) so_far.rules
          ∙ ap (λ (r : Rules). map (λ (s : SubjectConfig). s.rules) (take i subjects) ++ r ∷ []) (rules ∙ ap (λ (s : SubjectConfig). s.rules) is)
          ∙ sym (map_more (λ (s : SubjectConfig). s.rules) subjects i subject within);
      fresh = All-push (λ (h : HubView). StandsFor h.state NoEvents) hubs hub so_far.fresh fresh;
      misses = All-push (λ (h : HubView). h.misses ≡ 0) hubs hub so_far.misses misses;
    })
