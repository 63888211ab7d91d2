-- Document 01, "Start-up": the places of the register file, in its order.
use Rattle.std.specs.Prelude.{ℕ}

-- how many there are
abbrev pub PLACES : ℕ
PLACES = 35

abbrev pub HSION : ℕ
HSION = 0

abbrev pub HSEBYP : ℕ
HSEBYP = 1

abbrev pub HSEON : ℕ
HSEON = 2

abbrev pub PLLON : ℕ
PLLON = 3

abbrev pub PLLSAION : ℕ
PLLSAION = 4

abbrev pub PLLI2SON : ℕ
PLLI2SON = 5

abbrev pub SW : ℕ
SW = 6

abbrev pub MCO1 : ℕ
MCO1 = 7

abbrev pub MCO1PRE : ℕ
MCO1PRE = 8

abbrev pub MCO2 : ℕ
MCO2 = 9

abbrev pub MCO2PRE : ℕ
MCO2PRE = 10

abbrev pub PPRE1 : ℕ
PPRE1 = 11

abbrev pub PPRE2 : ℕ
PPRE2 = 12

abbrev pub HPRE : ℕ
HPRE = 13

abbrev pub PLLM : ℕ
PLLM = 14

abbrev pub PLLN : ℕ
PLLN = 15

abbrev pub PLLP : ℕ
PLLP = 16

abbrev pub PLLQ : ℕ
PLLQ = 17

abbrev pub PLLSRC : ℕ
PLLSRC = 18

abbrev pub PWREN : ℕ
PWREN = 19

abbrev pub VOS : ℕ
VOS = 20

abbrev pub ODEN : ℕ
ODEN = 21

abbrev pub ODSWEN : ℕ
ODSWEN = 22

abbrev pub LSEBYP : ℕ
LSEBYP = 23

abbrev pub LSEON : ℕ
LSEON = 24

abbrev pub LSION : ℕ
LSION = 25

abbrev pub PLLSAIN : ℕ
PLLSAIN = 26

abbrev pub PLLSAIP : ℕ
PLLSAIP = 27

abbrev pub PLLSAIQ : ℕ
PLLSAIQ = 28

abbrev pub CK48MSEL : ℕ
CK48MSEL = 29

abbrev pub PLLI2SN : ℕ
PLLI2SN = 30

abbrev pub PLLI2SR : ℕ
PLLI2SR = 31

abbrev pub PLLI2SQ : ℕ
PLLI2SQ = 32

abbrev pub LATENCY : ℕ
LATENCY = 33

abbrev pub OTHER : ℕ
OTHER = 34
