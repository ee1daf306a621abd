-- Headers that were written are read back, field by field; and a frame that is not refused is its headers, written again, and its zone.
-- Assumes nothing.
use Rattle.std.proofs.Common.{◌≡◌, ℕ, ◌+◌, ◌-◌, ◌/◌, ◌%◌, ◌^◌, ◌<◌, ◌≤◌, Bool, true, false, List, ◌++◌, length, take, drop, sym, ap, ◌∙◌, append_assoc, lt_of_lt_of_le, mod-eq_of_lt, arith, length-append, take-append-drop, take_at, take-add, drop_at, pow_mono, eq-eqb}
use Rattle.octets.specs.Basics.{AllOctets, number, octets, first}
use Rattle.words.specs.Fields.{field, placed, read, write}
use Rattle.words.specs.declared.Place.{Place}
use Rattle.words.proofs.Fields.{placed_read, placed_below, placed_lt, placed_within, field_lt, agree_on, foot_read, foot_above, foot_lt, foot_only}
use Rattle.octets.proofs.Numbers.{number_octets, octets_again, run_lt}
use Rattle.octets.proofs.Written.{length-octets}
use Rattle.trailer.specs.Trailer.{sent, wrong}
use Rattle.trailer.proofs.Setting.{right_sent}
use Rattle.frames.specs.Edition.{own_width, count_place, replay_place, cycle_width, cycle_at, count_in, signals, signalling}
use Rattle.frames.specs.Link.{head_word, headers, around, primary, zone_head, version_place, spacecraft_place, channel_place, count_width}
use Rattle.frames.specs.Shape.{Shape, shape_length, shape_zone, pointer_at, spare_above, shape_unused, shape_rows, word_of}
use Rattle.frames.specs.Frame.{in_range, packet_shape, frame_rows, zone_of, count, replay, zone_spare_place, pointer, pointer_place, pointer_word, head}
use Rattle.frames.specs.Statements.{HeadersBack}
use Rattle.frames.specs.declared.Edition.{Edition}
use Rattle.frames.specs.declared.Link.{Link}
use Rattle.frames.specs.declared.Settings.{Settings}
use Rattle.frames.proofs.Rows.{SoundHeader, header_taken, sound_frame}
use Rattle.frames.proofs.Settled.{Linked, settled}
use Rattle.frames.proofs.Signals.{Signalled, signalled_by, signals_by, signals_agree, signalling_lt, signalling_within, cycle_narrow, replay_in, usage_in, spare_in, no_cycle_in, cycle_in, count_own, count_cycle, count_again}

-- the word of the frame's own header, as its fields are put in one after the other
module _ (l : Link) (c r : ℕ) where
  abbrev signal : ℕ
  signal = signalling l.edition c r

  abbrev counted : ℕ
  counted = write count_place c signal

  abbrev channelled : ℕ
  channelled = write channel_place l.channel counted

  abbrev crafted : ℕ
  crafted = write spacecraft_place l.spacecraft channelled

  signal_lt : signal < 2 ^ 64
  signal_lt = signalling_lt l.edition c r

  counted_lt : counted < 2 ^ 64
  counted_lt = placed_lt signal 8 own_width c signal_lt (omega arith)

  channelled_lt : channelled < 2 ^ 64
  channelled_lt = placed_lt counted 32 6 l.channel counted_lt (omega arith)

  crafted_lt : crafted < 2 ^ 64
  crafted_lt = placed_lt channelled 38 8 l.spacecraft channelled_lt (omega arith)

  -- a field below the ones put in last is that of the word before them
  under_version : (place width : ℕ) → place + width ≤ 46 → field (head_word l c r) place width ≡ field crafted place width
  unfolding head_word
  under_version place width h = placed_below crafted 46 2 1 crafted_lt (omega arith) place width h

  under_craft : (place width : ℕ) → place + width ≤ 38 → field (head_word l c r) place width ≡ field channelled place width
  under_craft place width h =
      under_version place width (omega arith) ∙ placed_below channelled 38 8 l.spacecraft channelled_lt (omega arith) place width h

  under_channel : (place width : ℕ) → place + width ≤ 32 → field (head_word l c r) place width ≡ field counted place width
  under_channel place width h =
      under_craft place width (omega arith) ∙ placed_below counted 32 6 l.channel counted_lt (omega arith) place width h

  under_count : (place width : ℕ) → place + width ≤ 8 → field (head_word l c r) place width ≡ field signal place width
  under_count place width h =
      under_channel place width (omega arith) ∙ placed_below signal 8 own_width c signal_lt (omega arith) place width h

  pub version_written : read version_place (head_word l c r) ≡ 1
  unfolding head_word
  version_written = placed_read crafted 46 2 1 crafted_lt (omega arith)

  pub spacecraft_written : l.spacecraft ≤ 255 → read spacecraft_place (head_word l c r) ≡ l.spacecraft
  spacecraft_written h =
      under_version 38 8 (omega arith)
      ∙ placed_read channelled 38 8 l.spacecraft channelled_lt (omega arith)
      ∙ mod-eq_of_lt (omega arith)

  pub channel_written : l.channel ≤ 62 → read channel_place (head_word l c r) ≡ l.channel
  channel_written h =
      under_craft 32 6 (omega arith)
      ∙ placed_read counted 32 6 l.channel counted_lt (omega arith)
      ∙ mod-eq_of_lt (omega arith)

  pub own_written : read count_place (head_word l c r) ≡ c % 2 ^ own_width
  own_written = under_channel 8 own_width (omega arith) ∙ placed_read signal 8 own_width c signal_lt (omega arith)

  pub cycle_written : read (cycle_at l.edition) (head_word l c r) ≡ c / 2 ^ own_width % 2 ^ cycle_width l.edition
  cycle_written = under_count 0 (cycle_width l.edition) (omega (arith, cycle_narrow l.edition)) ∙ cycle_in l.edition c r

  pub count_written : c < 2 ^ count_width l → count_in l.edition (head_word l c r) ≡ c
  unfolding count_width
  count_written h = count_again l.edition c (head_word l c r) h cycle_written own_written

  pub replay_written : r < 2 → read replay_place (head_word l c r) ≡ r
  replay_written h = under_count 7 1 (omega arith) ∙ replay_in l.edition c r ∙ mod-eq_of_lt h

  pub signal_fields : Signalled l.edition (head_word l c r)
  signal_fields = record {
    usage_right = under_count 6 1 (omega arith) ∙ usage_in l.edition c r;
    spare_clear = under_count 4 2 (omega arith) ∙ spare_in l.edition c r;
    cycle_clear = λ none. under_count 0 4 (omega arith) ∙ no_cycle_in l.edition c r none;
  }

  pub signal_written : signals l.edition (head_word l c r) ≡ true
  signal_written = signals_by l.edition (head_word l c r) signal_fields

  -- nothing stands above the six octets
  pub head_word_lt : head_word l c r < 2 ^ 48
  unfolding head_word
  head_word_lt =
      let octet : signal < 2 ^ 48 = lt_of_lt_of_le (signalling_within l.edition c r) (pow_mono {i = 8} {j = 48} (omega arith)) in
      let count : counted < 2 ^ 48 = placed_within signal 8 own_width c signal_lt (omega arith) 48 octet (omega arith) in
      let channel : channelled < 2 ^ 48 = placed_within counted 32 6 l.channel counted_lt (omega arith) 48 count (omega arith) in
      let craft : crafted < 2 ^ 48 = placed_within channelled 38 8 l.spacecraft channelled_lt (omega arith) 48 channel (omega arith) in
      placed_within crafted 46 2 1 crafted_lt (omega arith) 48 craft (omega arith)

pub length-headers : (l : Link) (c r z : ℕ) → length (headers l c r z) ≡ 8
unfolding headers
length-headers l c r z = length-append (octets 6 (head_word l c r)) (octets 2 z) ∙ simp length-octets

-- a frame that begins with written headers
module _ (l : Link) (c r z : ℕ) (f : List ℕ) (headed : take 8 f ≡ headers l c r z) where
  as_written : f ≡ octets 6 (head_word l c r) ++ (octets 2 z ++ drop 8 f)
  unfolding headers
  as_written =
      sym (take-append-drop 8 f)
      ∙ ap (λ (h : List ℕ). h ++ drop 8 f) headed
      ∙ append_assoc (octets 6 (head_word l c r)) (octets 2 z) (drop 8 f)

  pub primary_written : primary l f ≡ head_word l c r
  unfolding primary
  primary_written =
      ap (λ (g : List ℕ). number (take 6 g)) as_written
      ∙ ap number (take_at (octets 6 (head_word l c r)) _ 6 (length-octets 6 _))
      ∙ number_octets 6 (head_word l c r) (head_word_lt l c r)

  pub zone_head_written : z < 2 ^ 16 → zone_head l f ≡ z
  unfolding zone_head
  zone_head_written h =
      ap (λ (g : List ℕ). number (take 2 (drop 6 g))) as_written
      ∙ ap (λ (g : List ℕ). number (take 2 g)) (drop_at (octets 6 (head_word l c r)) _ 6 (length-octets 6 _))
      ∙ ap number (take_at (octets 2 z) (drop 8 f) 2 (length-octets 2 z))
      ∙ number_octets 2 z h

-- headers that were written are read back; for any width of the pointer
pub headers_back : (l : Link) (width c r p : ℕ) (f : List ℕ) → Linked l → width ≤ 16 → c < 2 ^ count_width l → r < 2 → p < 2 ^ width
    → take 8 f ≡ headers l c r (placed 0 0 width p)
    → HeadersBack l (record { below = width; width = 16 - width }) (record { below = 0; width = width }) c r p f
headers_back l width c r p f bounds narrow wheel flag short headed =
    let word : primary l f ≡ head_word l c r = primary_written l c r (placed 0 0 width p) f headed in
    let zone : zone_head l f ≡ placed 0 0 width p =
    zone_head_written l c r (placed 0 0 width p) f headed (foot_lt width p (omega arith) 16 narrow) in
    record {
      version_back = ap (read version_place) word ∙ version_written l c r;
      spacecraft_back = ap (read spacecraft_place) word ∙ spacecraft_written l c r bounds.spacecraft_most;
      channel_back = ap (read channel_place) word ∙ channel_written l c r bounds.channel_most;
      count_back = ap (count_in l.edition) word ∙ count_written l c r wheel;
      replay_back = ap (read replay_place) word ∙ replay_written l c r flag;
      signal_back = ap (signals l.edition) word ∙ signal_written l c r;
      zone_spare_back = ap (λ (z : ℕ). field z width (16 - width)) zone ∙ foot_above width p (omega arith) width (16 - width) (omega arith);
      pointer_back = ap (λ (z : ℕ). field z 0 width) zone ∙ foot_read width p (omega arith) short;
    }

-- so no row refuses them, where the pointer is one that is used
pub back_sound : {l : Link} {spare-at pointer_at : Place} {c r p : ℕ} {f : List ℕ} (unused : ℕ → Bool) → HeadersBack l spare-at pointer_at c r p f
    → unused p ≡ false → SoundHeader l (primary l f) (read spare-at (zone_head l f)) (unused (read pointer_at (zone_head l f)))
back_sound unused h used = record {
  version_right = h.version_back;
  spacecraft_right = h.spacecraft_back;
  channel_right = h.channel_back;
  signal_right = h.signal_back;
  zone_spare_clear = h.zone_spare_back;
  pointer_used = ap unused h.pointer_back ∙ used;
}

-- ---- the other way round

-- a word of six octets whose fields are those of a header is that header's word
pub word_by_fields : (l : Link) (w : ℕ) → w < 2 ^ 48 → read version_place w ≡ 1 → read spacecraft_place w ≡ l.spacecraft
    → read channel_place w ≡ l.channel → signals l.edition w ≡ true → l.spacecraft ≤ 255 → l.channel ≤ 62
    → w ≡ head_word l (count_in l.edition w) (read replay_place w)
word_by_fields l w h v sc ch sp scl chl =
    let e : Edition = l.edition in
    let c : ℕ = count_in e w in
    let r : ℕ = read replay_place w in
    let b : ℕ = head_word l c r in
    let cycles : read (cycle_at e) w ≡ read (cycle_at e) b =
    sym (cycle_written l c r ∙ ap (◌% 2 ^ cycle_width e) (count_cycle e w) ∙ mod-eq_of_lt (field_lt w 0 (cycle_width e))) in
    let seven : w % 2 ^ 7 ≡ b % 2 ^ 7 = signals_agree e w b (signalled_by e w sp) (signal_fields l c r) cycles in
    let replay : w % 2 ^ 8 ≡ b % 2 ^ 8 = agree_on w b 7 1 seven (sym (replay_written l c r (field_lt w 7 1))) in
    let count : w % 2 ^ 32 ≡ b % 2 ^ 32 = agree_on w b 8 own_width replay (sym (own_written l c r ∙ count_own e w)) in
    let channel : w % 2 ^ 38 ≡ b % 2 ^ 38 = agree_on w b 32 6 count (ch ∙ sym (channel_written l c r chl)) in
    let craft : w % 2 ^ 46 ≡ b % 2 ^ 46 = agree_on w b 38 8 channel (sc ∙ sym (spacecraft_written l c r scl)) in
    let version : w % 2 ^ 48 ≡ b % 2 ^ 48 = agree_on w b 46 2 craft (v ∙ sym (version_written l c r)) in
    sym (mod-eq_of_lt h) ∙ version ∙ mod-eq_of_lt (head_word_lt l c r)

pub primary_lt : (l : Link) (f : List ℕ) → AllOctets f → 6 ≤ length f → primary l f < 2 ^ 48
unfolding primary
primary_lt l f o h = run_lt f 0 6 o (omega arith)

pub zone_head_lt : (l : Link) (f : List ℕ) → AllOctets f → 8 ≤ length f → zone_head l f < 2 ^ 16
unfolding zone_head
zone_head_lt l f o h = run_lt f 6 2 o (omega arith)

-- the headers of a frame, and what follows them
pub frame_parts : (l : Link) (f : List ℕ) → AllOctets f → 8 ≤ length f
    → f ≡ (octets 6 (primary l f) ++ octets 2 (zone_head l f)) ++ drop 8 f
unfolding primary zone_head
frame_parts l f o h =
    let six : octets 6 (number (take 6 f)) ≡ take 6 f = octets_again f 0 6 o (omega arith) in
    let two : octets 2 (number (take 2 (drop 6 f))) ≡ take 2 (drop 6 f) = octets_again f 6 2 o (omega arith) in
    let both : take 8 f ≡ octets 6 (number (take 6 f)) ++ octets 2 (number (take 2 (drop 6 f))) = rw (six, two) (take-add 6 2 f) in
    sym (take-append-drop 8 f) ∙ ap (λ (g : List ℕ). g ++ drop 8 f) both

-- a frame whose headers are right is these, written again from what is read, and what follows them; for any width of the pointer
pub headers_again : (l : Link) (f : List ℕ) (width spare : ℕ) (unused : Bool) → Linked l → AllOctets f → 8 ≤ length f → width ≤ 16
    → SoundHeader l (primary l f) spare unused → field (zone_head l f) width (16 - width) ≡ 0
    → f ≡ headers l (count_in l.edition (primary l f)) (read replay_place (primary l f)) (placed 0 0 width (field (zone_head l f) 0 width)) ++ drop 8 f
unfolding headers
headers_again l f width spare unused bounds o room narrow h clear =
    let w : primary l f ≡ head_word l (count_in l.edition (primary l f)) (read replay_place (primary l f)) =
    word_by_fields l (primary l f) (primary_lt l f o (omega arith))
    h.version_right h.spacecraft_right h.channel_right h.signal_right bounds.spacecraft_most bounds.channel_most in
    let z : zone_head l f ≡ placed 0 0 width (field (zone_head l f) 0 width) =
    foot_only 16 width (zone_head l f) (omega arith) narrow (zone_head_lt l f o room) clear in
    frame_parts l f o room ∙ cc (w, z)

-- ---- frames of a shape

-- a frame of the right length and with the right trailer whose headers are read back is not refused, where its pointer is one that is used
pub shape_taken : (h : Shape) {c r p : ℕ} {f : List ℕ} → HeadersBack h.link (spare_above h.width) (pointer_at h.width) c r p f
    → length f ≡ shape_length h → wrong h.link.trailed f ≡ false → shape_unused h p ≡ false → first (shape_rows h f) ≡ 0
unfolding first
shape_taken h back long right used = rw (eq-eqb _ _ long, right) (header_taken h.link _ _ _ (back_sound (shape_unused h) back used))

-- the headers of a frame, written again from what is read
abbrev headers_of : Shape → List ℕ → List ℕ
headers_of h f =
    let head : ℕ = primary h.link f in
    headers h.link (count_in h.link.edition head) (read replay_place head) (word_of h.width (read (pointer_at h.width) (zone_head h.link f)))

-- a frame that is not refused is these and its zone, sent
pub shape_again : (h : Shape) (f : List ℕ) → Linked h.link → h.width ≤ 16 → AllOctets f → first (shape_rows h f) ≡ 0
    → f ≡ sent h.link.trailed (headers_of h f ++ shape_zone h f)
shape_again h f bounds narrow o e =
    let sound = sound_frame h f e in
    let long : length f ≡ h.size + around h.link = sound.length-right in
    let again : f ≡ headers_of h f ++ drop 8 f =
    headers_again h.link f h.width _ _ bounds o (omega arith) narrow sound.header sound.header.zone_spare_clear in
    let front : take 8 f ≡ headers_of h f = ap (take 8) again ∙ take_at (headers_of h f) (drop 8 f) 8 (length-headers h.link _ _ _) in
    right_sent h.link.trailed f (8 + h.size) o (omega arith) sound.trailer_right
    ∙ ap (sent h.link.trailed) (take-add 8 h.size f ∙ ap (◌++ shape_zone h f) front)

-- ---- packet channels

pub length-head : (s : Settings) (c p : ℕ) → length (head s c p) ≡ 8
unfolding head
length-head s c p = length-headers s.link c 0 (pointer_word p)

pub head_back : (s : Settings) (c p : ℕ) (f : List ℕ) → in_range s ≡ true → c < 2 ^ count_width s.link → p < 2 ^ 11
    → take 8 f ≡ head s c p → HeadersBack s.link zone_spare_place pointer_place c 0 p f
unfolding head
head_back s c p f ok fits = headers_back s.link 11 c 0 p f (settled s ok).on_link (omega arith) fits (omega arith)

pub frame_again : (s : Settings) (f : List ℕ) → in_range s ≡ true → AllOctets f → first (frame_rows s f) ≡ 0
    → f ≡ sent s.link.trailed (headers s.link (count s f) (replay s f) (pointer_word (pointer s f)) ++ zone_of s f)
unfolding frame_rows zone_of
frame_again s f ok = shape_again (packet_shape s) f (settled s ok).on_link (omega arith)
