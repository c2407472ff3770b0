-- Written news and welcomes are read back as the same values.
use Rattle.std.proofs.Common.{◌≡◌, ℤ, suc, ℕ, List, [], ◌∷◌, map, true, false, cond, Option, Some, None, Result, Ok, All, IfSome, codes, refl, ap, ◌∙◌, arith, option_and_then}
use Rattle.std.proofs.lemmas.List.{map-id}
use Rattle.serde_json.specs.Data.{Data, Items, object, no_members, member}
use Rattle.serde_json.specs.Read.{read}
use Rattle.serde_json.specs.View.{items_of}
use Rattle.room_wire.specs.Prelude.{Global, result_ok, latitude_of, IsLatitude, longitude_of, IsLongitude, written, Name, Element, Node, Way, Relation, Row, name_of_text, Rows, names_of, are_rising, row_pair, News, NewsRow, Fault, BadField, Field, Welcome, row_at, rows_at, rows_in, rising, is_gone, news_read, news_row_at, news_tree, number_at, row_tree, spells_news, told_tree, without_id, AreNews, IsMapRow, IsNewsRow, IsUnder, IsWelcome, HasId, or_fault, under, author_at, by_id, el_at, element_at, items_in, element_tree, rows_tree, whole, count_at, map_at, spells_welcome, welcome, welcome_of, welcome_tree}
use Rattle.room_wire.specs.Reading.{◌>>=◌}
use Rattle.room_wire.proofs.ElementBack.{el_back, element_back}
use Rattle.room_wire.proofs.ReadBackProofs.{three, two}
use Rattle.room_wire.proofs.WellFormedProofs.{count_read, id_read, number_read}
use Rattle.room_wire.specs.declared.field.Field.TheVariants as fields
use Rattle.room_wire.specs.News as news
use Rattle.room_wire.specs.Welcomes as welcomes

-- items, each of which is read back
items_back : {X Y : Type 0} (reading : Data → Option Y) (tree : X → Data) (back : X → Y) (P : X → Type 0) → ((x : X) → P x → reading (tree x) ≡ Some (back x)) → (xs : List X) → All P xs → items_in reading (items_of (map tree xs)) ≡ Some (map back xs)
items_back reading tree back P h [] f = refl
items_back reading tree back P h (x ∷ xs) f =
    let first = h x (f 0 x (omega arith)) in
    let rest = items_back reading tree back P h xs (λ k d l. f (suc k) d (omega arith)) in
    rw (first, rest) refl

-- rows whose names rise
rows_back : {Y : Type 0} (reading : Data → Result Y Fault) (name : Y → Name) (field : Field) (rows : List Y) (items : Items) → items_in (λ d. result_ok (reading d)) items ≡ Some rows → are_rising (map name rows) ≡ true
    → or_fault (BadField field) (option_and_then (rising reading name) (rows_in reading name items)) ≡ Ok rows
rows_back reading name field rows items h g = rw (h, g) refl

-- an element with its name
named_row : (d : Data) (name : Name) (element : Element Global) → el_at d ≡ Ok name → element_at name.kind d ≡ Ok element → row_at d ≡ Ok (record { name = name; element = element })
named_row d name element h g = rw (h, g) refl

-- the rows of a map, as pairs and as rows
abbrev as_rows : List (Name × Element Global) → List (Row Global)
as_rows rows = map (λ r. record { name = r.0; element = r.1 }) rows

names_kept : (rows : List (Name × Element Global)) → map (λ (r : Row Global). r.name) (as_rows rows) ≡ names_of rows
names_kept [] = refl
names_kept (r ∷ rs) = ap (λ names. r.0 ∷ names) (names_kept rs)

pairs_kept : (rows : List (Name × Element Global)) → map row_pair (as_rows rows) ≡ rows
pairs_kept [] = refl
pairs_kept (r ∷ rs) = ap (λ pairs. r ∷ pairs) (pairs_kept rs)

-- the tree of an element is not gone
not_gone : (name : Name) (element : Element Global) → is_gone (element_tree name element) ≡ false
not_gone name (Node lat lon tags) = refl
not_gone name (Way nodes tags) = refl
not_gone name (Relation members tags) = refl

module _ (latitude_back : (z : ℤ) → IsLatitude z → latitude_of (written z) ≡ Some z) (longitude_back : (z : ℤ) → IsLongitude z → longitude_of (written z) ≡ Some z) where
  row_back : (name : Name) (element : Element Global) → HasId name → IsUnder name element → row_at (element_tree name element) ≡ Ok (record { name = name; element = element })
  row_back name element f u = named_row (element_tree name element) name element (el_back name element f) (element_back latitude_back longitude_back name element u.0 u.1)

  news_row_back : (name : Name) (element : Option (Element Global)) → HasId name → IfSome element (λ e. IsUnder name e) → news_row_at (row_tree name element) ≡ Ok (record { name = name; element = element })
  news_row_back name None f u = ap (λ r. or_fault (BadField fields.El) r >>= λ (x : Name). Ok (record { name = x; element = None })) (name_of_text name f)
  news_row_back name (Some element) f u =
      let d = element_tree name element in
      ap (λ b. cond b (el_at d >>= λ x. Ok (record { name = x; element = None })) (row_at d >>= λ r. Ok (record { name = r.name; element = Some r.element }))) (not_gone name element)
      ∙ ap (λ (q : Result (Row Global) Fault). q >>= λ r. Ok (record { name = r.name; element = Some r.element })) (row_back name element f u)

  told_back : (n : News Global) → AreNews n → news.told_at (told_tree n) ≡ Ok n
  told_back n h =
      let d = told_tree n in
      let author_is : author_at fields.By d ≡ Ok n.author = ap (λ b. or_fault (BadField fields.By) (cond b (Some n.author) None)) h.author in
      let items = items_back (λ e. result_ok (news_row_at e)) (λ (r : NewsRow Global). row_tree r.name r.element) (λ r. r) (λ r. IsNewsRow r) (λ r k. ap result_ok (news_row_back r.name r.element k.0 k.1)) n.rows h.rows ∙ ap Some (map-id n.rows) in
      let rows_are : rows_at news_row_at (λ r. r.name) fields.Rows d ≡ Ok n.rows = rows_back news_row_at (λ r. r.name) fields.Rows n.rows (items_of (map (λ r. row_tree r.name r.element) n.rows)) items h.rising in
      let number_is : number_at d ≡ Ok n.seq = ap (or_fault (BadField fields.Seq)) (number_read n.seq h.number) in
      three {D = News Global} (λ author rows seq. record { seq = seq; author = author; rows = rows }) (author_at fields.By d) (rows_at news_row_at (λ r. r.name) fields.Rows d) (number_at d) n.author n.rows n.seq author_is rows_are number_is

  pub news_read_back : (text : List ℕ) (n : News Global) → read text ≡ Some (news_tree n) → AreNews n → spells_news text ≡ Ok n
  news_read_back text n tree h = ap news_read tree ∙ ap (under without_id 0) (told_back n h)

  shown_back : (w : Welcome) → IsWelcome w → welcomes.told_at (welcome_tree w) ≡ Ok (w.rows, w.seq)
  shown_back w h =
      let d = object (member (codes "map") (rows_tree w.rows) (member (codes "seq") (whole w.seq) no_members)) in
      let items = items_back (λ e. result_ok (row_at e)) (λ (r : Name × Element Global). element_tree r.0 r.1) (λ r. record { name = r.0; element = r.1 }) (λ r. IsMapRow r) (λ r k. ap result_ok (row_back r.0 r.1 k.0 k.1)) w.rows h.rows in
      let rises : are_rising (map (λ (r : Row Global). r.name) (as_rows w.rows)) ≡ true = ap are_rising (names_kept w.rows) ∙ h.rising in
      let found : rows_at row_at (λ r. r.name) fields.Map d ≡ Ok (as_rows w.rows) = rows_back row_at (λ r. r.name) fields.Map (as_rows w.rows) (items_of (map (λ r. element_tree r.0 r.1) w.rows)) items rises in
      let map_is : map_at d ≡ Ok w.rows = ap (λ (q : Result (List (Row Global)) Fault). q >>= λ rows. Ok (map row_pair rows)) found ∙ ap Ok (pairs_kept w.rows) in
      let count_is : count_at d ≡ Ok w.seq = ap (or_fault (BadField fields.Seq)) (count_read w.seq h.number) in
      two {C = Rows Global × ℕ} (λ rows seq. (rows, seq)) (map_at d) (count_at d) w.rows w.seq map_is count_is

  pub welcome_read_back : (text : List ℕ) (w : Welcome) → read text ≡ Some (welcome_tree w) → IsWelcome w → spells_welcome text ≡ Ok w
  welcome_read_back text w tree h =
      let d = welcome_tree w in
      ap welcome_of tree ∙ ap (λ r. by_id welcome welcomes.told_at r d) (id_read d w.id (refl, h.id)) ∙ ap (under welcome w.id) (shown_back w h)
