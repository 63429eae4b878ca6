-- Ports that are handed out number by number, one of each box.
use Rattle.std.proofs.Common.{◌≡◌, ◌∙◌, sym, refl, ap, subst, ℕ, suc, ◌+◌, ◌-◌, ◌<◌, ◌≤◌, List, [], ◌∷◌, ◌++◌, length, map, take, drop, get_or, zero, arith, append_assoc, append-nil, length-append}
use Rattle.std.proofs.lemmas.List.{length-map, map_more}
use Rattle.std.proofs.lemmas.List.Elements.{All-head, All-map, All-same, All-weaker}
use Rattle.std.specs.List.{All, enumerate_from, zip}
use Rattle.rx_mailbox.specs.Boxes.{Box, Outgoing, outgoing}
use Rattle.rx_mailbox.specs.PortRows.{IsFresh}
use Rattle.rx_server.specs.Wirings.{RowView, behind, next_port, row_ports}

module _ {B : Type 0} where
  -- one more port of each box
  pub behind-more : (n : ℕ) (rows : List (RowView B)) → map (behind 1) (map (behind n) rows) ≡ map (behind (n + 1)) rows
  behind-more n [] = refl
  behind-more n (row ∷ rows) =
      let next : row.next + n + 1 ≡ row.next + (n + 1) = omega arith in
      let count : row.count - n - 1 ≡ row.count - (n + 1) = omega arith in
      let rest = behind-more n rows in
      cc

  abbrev the_row : Box B → ℕ → ℕ → RowView B
  the_row box next count = record { box = box; next = next; count = count }

  -- none was handed out
  pub behind-none : (rows : List (RowView B)) → rows ≡ map (behind 0) rows
  behind-none [] = refl
  behind-none (row ∷ rows) =
      let next : row.next + 0 ≡ row.next = omega arith in
      let count : row.count - 0 ≡ row.count = omega arith in
      let same : behind 0 row ≡ row =
      ap (λ (n : ℕ). the_row row.box n (row.count - 0)) next ∙ ap (λ (n : ℕ). the_row row.box row.next n) count in
      sym (ap (λ (r : RowView B). r ∷ map (behind 0) rows) same ∙ ap (λ (l : List (RowView B)). row ∷ l) (sym (behind-none rows)))

  -- the next ports behind the first ones
  pub ports-behind : (n : ℕ) (rows : List (RowView B)) → map next_port (map (behind n) rows) ≡ row_ports n rows
  ports-behind n [] = refl
  ports-behind n (row ∷ rows) = ap (λ (ports : List (Outgoing B)). outgoing row.box (row.next + n) [] ∷ ports) (ports-behind n rows)

  -- they have put nothing
  pub ports-fresh : (rows : List (RowView B)) → All IsFresh (map next_port rows)
  ports-fresh rows = All-map IsFresh next_port rows (λ k d within. (refl, refl))

-- of each box the first ports were handed out, as many as the parts that are done, and one is left for each of the rest
pub record Handed {B D X : Type 0} (initial rows : List (RowView B)) (done : List D) (rest : List X) : Type 0 where
  pub rows_are : rows ≡ map (behind (length done)) initial
  pub left : All (λ row. length rest ≤ row.count) rows

module _ {B D X : Type 0} where
  pub Handed-begun : (rows : List (RowView B)) (done : List D) (rest all : List X)
      → done ≡ [] → rest ≡ all → All (λ row. length all ≤ row.count) rows → Handed rows rows done rest
  Handed-begun rows done rest all none same left = record {
    rows_are = subst (λ (l : List D). rows ≡ map (behind (length l)) rows) (sym none) (behind-none rows);
    left = subst (λ (l : List X). All (λ row. length l ≤ row.count) rows) (sym same) left;
  }

  -- where something is left to be made, each box has a port for it
  pub Handed-some : (initial rows : List (RowView B)) (done : List D) (before rest : List X) (x : X)
      → before ≡ x ∷ rest → Handed initial rows done before → All (λ row. 0 < row.count) rows
  Handed-some initial rows done before rest x cut handed =
      let count : length before ≡ suc (length rest) = ap length cut in
      All-weaker (λ (row : RowView B). length before ≤ row.count) (λ (row : RowView B). 0 < row.count) (λ row most. omega arith) rows handed.left

  -- which is the port of its number
  pub Handed-ports : (initial rows : List (RowView B)) (done : List D) (rest : List X)
      → Handed initial rows done rest → map next_port rows ≡ row_ports (length done) initial
  Handed-ports initial rows done rest handed = ap (map next_port) handed.rows_are ∙ ports-behind (length done) initial

  -- there are as many boxes as before
  pub Handed-count : (initial rows : List (RowView B)) (done : List D) (rest : List X) → Handed initial rows done rest → length rows ≡ length initial
  Handed-count initial rows done rest handed = ap length handed.rows_are ∙ length-map initial (behind (length done))

  pub Handed-more : (initial rows rows_after : List (RowView B)) (done after : List D) (d : D) (before rest : List X) (x : X)
      → before ≡ x ∷ rest → after ≡ done ++ d ∷ [] → rows_after ≡ map (behind 1) rows
      → Handed initial rows done before → Handed initial rows_after after rest
  Handed-more initial rows rows_after done after d before rest x cut put moved handed =
      let count : length before ≡ suc (length rest) = ap length cut in
      let number : length after ≡ length done + 1 = ap length put ∙ length-append done (d ∷ []) in
      record {
        rows_are =
            moved ∙ ap (map (behind 1)) handed.rows_are ∙ behind-more (length done) initial
            ∙ subst (λ (n : ℕ). map (behind (length done + 1)) initial ≡ map (behind n) initial) (sym number) refl;
        left = All-same (λ (row : RowView B). length rest ≤ row.count) rows_after (map (behind 1) rows) moved
            (All-map (λ (row : RowView B). length rest ≤ row.count) (behind 1) rows
            (All-weaker (λ (row : RowView B). length before ≤ row.count) (λ (row : RowView B). length rest ≤ row.count - 1) (λ row most. omega arith) rows handed.left));
      }

-- LISTS

-- what holds of all items holds of the first
pub All-first : {X : Type 0} (P : X → Type 0) (before rest : List X) (x : X) → before ≡ x ∷ rest → All P before → P x
All-first P before rest x cut all = All-head P x rest (All-same P (x ∷ rest) before (sym cut) all)

pub zip-same : {X Y : Type 0} (xs xs2 : List X) (ys ys2 : List Y) → xs ≡ xs2 → ys ≡ ys2 → zip xs ys ≡ zip xs2 ys2
zip-same {X = X} {Y = Y} xs xs2 ys ys2 p q = ap (λ (l : List X). zip l ys) p ∙ ap (λ (l : List Y). zip xs2 l) q

pub zip-none : {X Y : Type 0} (xs : List X) (ys : List Y) → ys ≡ [] → zip xs ys ≡ []
zip-none [] ys none = refl
zip-none (x ∷ xs) [] none = refl
zip-none (x ∷ xs) (y ∷ ys) none = cc

pub empty : {X : Type 0} (xs : List X) → length xs ≡ 0 → xs ≡ []
empty [] none = refl
empty (x ∷ xs) none = absurd (omega arith)

-- one more was put behind
pub put-count : {X : Type 0} (xs after : List X) (x : X) → after ≡ xs ++ x ∷ [] → length after ≡ length xs + 1
put-count xs after x put = ap length put ∙ length-append xs (x ∷ [])

-- ONE FOR EACH

-- of a list's items, numbered from 0, the first have been made into parts, and these are left
pub record Made {X D : Type 0} (f : ℕ × X → D) (all : List X) (done : List D) (rest : List X) : Type 0 where
  pub made : done ++ map f (enumerate_from (length done) rest) ≡ map f (enumerate_from 0 all)

module _ {X D : Type 0} (f : ℕ × X → D) where
  pub Made-begun : (all : List X) (done : List D) (rest : List X) → done ≡ [] → rest ≡ all → Made f all done rest
  Made-begun all done rest none same = record {
    made =
        subst (λ (l : List D). l ++ map f (enumerate_from (length l) rest) ≡ map f (enumerate_from 0 all)) (sym none)
        (ap (λ (l : List X). map f (enumerate_from 0 l)) same);
  }

  pub Made-more : (all : List X) (done after : List D) (x : X) (before rest : List X) (d : D)
      → before ≡ x ∷ rest → after ≡ done ++ d ∷ [] → d ≡ f (length done, x) → Made f all done before → Made f all after rest
  Made-more all done after x before rest d cut put is so_far = record {
    made =
        let count : length after ≡ length done + 1 = ap length put ∙ length-append done (d ∷ []) in
        let step : done ++ (f (length done, x) ∷ map f (enumerate_from (length done + 1) rest)) ≡ map f (enumerate_from 0 all) =
        subst (λ (l : List X). done ++ map f (enumerate_from (length done) l) ≡ map f (enumerate_from 0 all)) cut so_far.made in
        subst (λ (n : ℕ). after ++ map f (enumerate_from n rest) ≡ map f (enumerate_from 0 all)) (sym count)
        (subst (λ (l : List D). l ++ map f (enumerate_from (length done + 1) rest) ≡ map f (enumerate_from 0 all)) (sym put)
        (append_assoc done (d ∷ []) (map f (enumerate_from (length done + 1) rest))
        ∙ subst (λ (e : D). done ++ (e ∷ map f (enumerate_from (length done + 1) rest)) ≡ map f (enumerate_from 0 all)) (sym is) step));
  }

  pub Made-all : (all : List X) (done : List D) (rest : List X) → rest ≡ [] → Made f all done rest → done ≡ map f (enumerate_from 0 all)
  Made-all all done rest none so_far =
      sym (append-nil done) ∙ subst (λ (l : List X). done ++ map f (enumerate_from (length done) l) ≡ map f (enumerate_from 0 all)) none so_far.made

-- IN PLACE

-- behind the places that were written stands what stood there
pub untouched : {X : Type 0} (f : X → X) (xs : List X) (i : ℕ) (d : X) → get_or (map f (take i xs) ++ drop i xs) i d ≡ get_or xs i d
untouched f [] zero d = refl
untouched f [] (suc i) d = refl
untouched f (x ∷ xs) zero d = refl
untouched f (x ∷ xs) (suc i) d = untouched f xs i d

-- one more was read
pub read-more : {X Y : Type 0} (f : X → X) (g : X → Y) (xs ys : List X) (i : ℕ) (x : X) (done after : List Y) (y : Y)
    → i < length xs → ys ≡ map f (take i xs) ++ drop i xs → x ≡ get_or ys i x
    → done ≡ map g (take i xs) → after ≡ done ++ y ∷ [] → y ≡ g x → after ≡ map g (take (i + 1) xs)
read-more {Y = Y} f g xs ys i x done after y within written read so_far put is =
    let here : x ≡ get_or xs i x = read ∙ ap (λ l. get_or l i x) written ∙ untouched f xs i x in
    let more : map g (take (i + 1) xs) ≡ map g (take i xs) ++ g (get_or xs i x) ∷ [] = map_more g xs i x within in
    put ∙ ap (λ (l : List Y). l ++ y ∷ []) so_far ∙ ap (λ (z : Y). map g (take i xs) ++ z ∷ []) (is ∙ ap g here) ∙ sym more
