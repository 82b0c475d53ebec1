-- Sets of protocols.
use Rattle.std.specs.Prelude.{ℕ}
use Rattle.packet_headers.specs.declared.protocol.Protocol.{Protocol}
use Rattle.packet_headers.specs.declared.protocol.Protocol.TheVariants.{Ethernet, Vlan, Arp, Ipv4, Ipv6, Fragment, Icmp, Icmpv6, Tcp, Udp, OtherNetwork, OtherTransport}

-- the bit that stands for it in a set
abbrev pub bit_of : Protocol → ℕ
bit_of Ethernet = 1
bit_of Vlan = 2
bit_of Arp = 4
bit_of Ipv4 = 8
bit_of Ipv6 = 16
bit_of Fragment = 32
bit_of Icmp = 64
bit_of Icmpv6 = 128
bit_of Tcp = 256
bit_of Udp = 512
bit_of OtherNetwork = 1024
bit_of OtherTransport = 2048
