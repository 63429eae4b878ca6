use Rattle.std.proofs.Common.{rules, ◌≡◌, refl, ◌∙◌, sym, ap, cond, ◌-◌, ◌==◌, ℕ, List, [], ◌∷◌, ◌++◌, Bool, true, false, None, Some, codes, decimal, drop, take, append_assoc, arith}
use Rattle.std.specs.Str.{is_utf8}
use Rattle.std.proofs.lemmas.List.{append-nil, length-drop, take_all}
use Rattle.std.proofs.lemmas.Fmt.{length-decimal-le}
use Rattle.base64.specs.Engines.{standard}
use Rattle.base64.specs.GeneralPurpose.{encode_of}
use Rattle.rx_note.specs.declared.item.Item.{Item}
use Rattle.rx_http.specs.Events.{item_bytes}
use Rattle.rx_http.specs.Ids.{id_bytes}
use Rattle.rx_http.specs.Pieces.{Saying, saying_bytes, text_lines}
use Rattle.rx_proto.proofs.Writes.{Writes-as}
use Rattle.rx_http.proofs.stream_event.written_event.write_short.Goals as goal

-- the bytes, each piece before those that stand
abbrev put_behind : List ℕ → List ℕ → List ℕ → List ℕ
put_behind epoch digits text = codes "id: " ++ (epoch ++ (codes "-" ++ (digits ++ (codes "\nevent: next\ndata: " ++ (text ++ codes "\n\n")))))

-- what an item says whose text is told as it is
abbrev said : List ℕ → ℕ → List ℕ → Saying
said epoch place text = record { id = Some (id_bytes epoch (Some place) false); kind = codes "next"; text = text }

said-bytes : (epoch : List ℕ) (place : ℕ) (text : List ℕ) → text_lines text ≡ text → saying_bytes (said epoch place text) ≡ put_behind epoch (decimal place) text
said-bytes epoch place text plain =
    let digits = decimal place in
    let last = text ++ codes "\n\n" in
    let kind = codes "event: next\ndata: " ++ last in
    let id = epoch ++ (45 ∷ (digits ++ [])) in
    ap (λ l. (codes "id: " ++ (id ++ codes "\n")) ++ (codes "event: next\ndata: " ++ (l ++ codes "\n\n"))) plain
    ∙ append_assoc (codes "id: ") (id ++ codes "\n") kind
    ∙ ap (λ l. codes "id: " ++ l) (append_assoc id (codes "\n") kind)
    ∙ ap (λ l. codes "id: " ++ ((epoch ++ (45 ∷ l)) ++ (codes "\n" ++ kind))) (append-nil digits)
    ∙ ap (λ l. codes "id: " ++ l) (append_assoc epoch (45 ∷ digits) (codes "\n" ++ kind))

-- an item that is no seed, with a text of UTF-8 without a CR
item-said : (epoch : List ℕ) (item : Item) (seed utf8 : Bool) → (item.place == 4294967295) ≡ seed → is_utf8 item.text ≡ utf8 → seed ≡ false → utf8 ≡ true → text_lines item.text ≡ item.text
    → item_bytes epoch item ≡ put_behind epoch (decimal item.place) item.text
item-said epoch item seed utf8 is_seed is_utf8_text no_seed told plain =
    ap (λ s. saying_bytes (record { id = cond s None (Some (id_bytes epoch (Some item.place) false)); kind = cond (is_utf8 item.text) (codes "next") (codes "next" ++ codes "64"); text = cond (is_utf8 item.text) item.text (encode_of standard item.text) })) (is_seed ∙ no_seed)
    ∙ ap (λ u. saying_bytes (record { id = Some (id_bytes epoch (Some item.place) false); kind = cond u (codes "next") (codes "next" ++ codes "64"); text = cond u item.text (encode_of standard item.text) })) (is_utf8_text ∙ told)
    ∙ said-bytes epoch item.place item.text plain

pub write_digits-place-requires : goal.write_digits-place-requires
write_digits-place-requires g c = search (rules, length-decimal-le 10)

pub put_before-hyphen-requires : goal.put_before-hyphen-requires
put_before-hyphen-requires g c = search (rules, length-decimal-le 10)

pub put_before-start-requires : goal.put_before-start-requires
put_before-start-requires g c = search (rules, length-decimal-le 10)

pub put_before-first-requires : goal.put_before-first-requires
put_before-first-requires g c = search (rules, length-decimal-le 10)

pub returns : goal.returns
returns g c =
    let item = c.args.item.now in
    let short = c.requires in
    let first = c.put_before-first.result in
    let behind = drop first c.put_before-first.new.bytes in
    let all : take (172 - first) behind ≡ behind = take_all (172 - first) behind (omega (arith, length-drop first c.put_before-first.new.bytes)) in
    let epoch = c.as_bytes-2.result.now in
    let text = c.as_bytes.result.now in
    let put : behind ≡ put_behind epoch (decimal c.from.result) text =
    c.put_before-first.ensures.put ∙ ap (λ l. codes "id: " ++ l) (c.put_before-start.ensures.put
    ∙ ap (λ l. epoch ++ l) (c.put_before-hyphen.ensures.put
    ∙ ap (λ l. codes "-" ++ l) (c.write_digits-place.ensures.written
    ∙ ap (λ l. decimal c.from.result ++ l) (c.put_before-kind.ensures.put
    ∙ ap (λ l. codes "\nevent: next\ndata: " ++ l) (c.put_before-text.ensures.put
    ∙ ap (λ l. text ++ l) c.put_before-end.ensures.put))))) in
    let bytes : take (172 - first) behind ≡ item_bytes c.args.epoch.now item = all ∙ put
    ∙ ap (λ l. put_behind l (decimal c.from.result) text) c.as_bytes-2.ensures.bytes
    ∙ ap (λ n. put_behind c.args.epoch.now (decimal n) text) c.from.ensures
    ∙ ap (λ l. put_behind c.args.epoch.now (decimal item.place) l) c.as_bytes.ensures.bytes
    ∙ sym (item-said c.args.epoch.now item (item.place == 4294967295) (is_utf8 item.text) refl refl short.own short.line.told short.line.line) in
    Writes-as c.write_bytes.result _ _ _ _ bytes c.write_bytes.ensures
